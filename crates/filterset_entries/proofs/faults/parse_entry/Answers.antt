use Rattle.std.proofs.Common.{rules, ◌≡◌, string_bytes}
use Rattle.filterset_language.specs.Views.{tree_of}
use Rattle.nextest_filtering.specs.Compiling.{IsFiltersetOf, packages_of}
use Rattle.filterset_entries.proofs.RowsLemmas.{refusal_faults}
use Rattle.filterset_entries.proofs.faults.parse_entry.Goals as goal

pub returns-in-Ok-clause-made : goal.returns-in-Ok-clause-made
returns-in-Ok-clause-made c =
    let shallow = rw c.in_default.is at c.in_ok-place.ensures.shallow in
    let e = tree_of c.in-Ok.filterset.parsed in
    let spelled : IsFiltersetOf c.args.entry.now.text.now c.args.entry.now.kind (packages_of c.args.context.now) c.args.groups.now e = search rules in
    record {
      accepted = (spelled, shallow e spelled.reads.spelled);
      compiled = c.in-Ok.ensures.compiled;
      no_default = c.in-Ok.ensures.no_default;
      no_group = c.in-Ok.ensures.no_group;
    }

pub returns-in_ok-into_faults-in-Err-clause-refused : goal.returns-in_ok-into_faults-in-Err-clause-refused
returns-in_ok-into_faults-in-Err-clause-refused c =
    let entry = c.args.entry.now in
    let made = c.in_ok-into_faults-in-Err.field-0 in
    let same : string_bytes c.in_ok-input.input ≡ entry.text.now = search (rules, c.in_ok-input.ensures.ok) in
    refusal_faults c.in_ok-input.input entry.text.now entry.kind (packages_of c.args.context.now) c.args.groups.now c.in-Err.refusal made same c.in-Err.ensures.refused c.in_ok-into_faults-in-Err.ensures.faults
