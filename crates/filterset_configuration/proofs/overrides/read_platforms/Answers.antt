use Rattle.std.proofs.Common.{rules, ◌≡◌, false, Some, sym, ◌∙◌}
use Rattle.std.specs.Prelude.{codes, is_some}
use Rattle.toml.specs.{Data.as_table, Data.get, View.view}
use Rattle.filterset_configuration.proofs.Reading.{handed_on, target_of}
use Rattle.filterset_configuration.proofs.overrides.read_platforms.Goals as goal

pub returns-in_err-target-clause-refused : goal.returns-in_err-target-clause-refused
returns-in_err-target-clause-refused c =
    let e = view c.in-Some.found.now in
    let text : is_some (as_table e) ≡ false = sym c.is_table.ensures ∙ c.if-is_table.false in
    handed_on c.from_residual.result c.in_err-target.field-0.0 c.from_residual.ensures.1
    (λ fact. (fact.0.target, target_of (view c.args.value.now) e fact.0 (search (rules, c.in-Some.ensures)) text fact.1)) c.in_err-target.ensures.refused
