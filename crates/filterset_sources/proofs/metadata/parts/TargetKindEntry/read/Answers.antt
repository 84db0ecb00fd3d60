use Rattle.std.proofs.Common.{inr}
use Rattle.std.specs.Prelude.{codes}
use Rattle.serde_json.specs.View.{view}
use Rattle.filterset_json.proofs.RefusalLemmas.{Names-whole, Refuses-not}
use Rattle.filterset_sources.proofs.KindLemmas.{empty_list, no_kind_of}
use Rattle.filterset_sources.proofs.metadata.parts.TargetKindEntry.read.Goals as goal

pub returns-in-empty-clause-refused : goal.returns-in-empty-clause-refused
returns-in-empty-clause-refused c =
    Refuses-not c.wrong.result
    (no_kind_of (view c.args.value.now) c.in_ok-kinds.kinds.items (rw c.as_slice.ensures.value at c.in-empty.len_below) c.in_ok-kinds.ensures.read)

pub returns-in-empty-clause-place : goal.returns-in-empty-clause-place
returns-in-empty-clause-place c =
    λ wrong same.
    inr (
      empty_list (view c.args.value.now) c.in_ok-kinds.kinds.items (rw c.as_slice.ensures.value at c.in-empty.len_below) c.in_ok-kinds.ensures.read,
      Names-whole c.wrong.result (codes "a list of at least one text") c.wrong.ensures wrong same,
    )
