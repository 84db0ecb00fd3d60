use Rattle.std.proofs.Common.{rules, ◌≡◌}
use Rattle.serde_json.specs.{Data.item, Data.no_items, View.items_view, View.view}
use Rattle.filterset_json.specs.Shape.{IsPair}
use Rattle.filterset_json.proofs.{RefusalLemmas.Refuses-not, ShapeLemmas.two_items}
use Rattle.filterset_json.proofs.entry.Tuple2Entry.read.Goals.{in_default-via-then-branch-lt2, in_default-via-else-branch-lt2+else-this-lt3}
use Rattle.filterset_json.proofs.entry.Tuple2Entry.read.Goals as goal

-- a list of another length is none of 2 items
pub returns-in_default-clause-refused : goal.returns-in_default-clause-refused
returns-in_default-clause-refused g c =
    Refuses-not c.wrong.result
    (λ fact.
    let values = c.in_ok-items_of.field-0.now in
    let is : IsPair g.A.Entry.stands_for g.B.Entry.stands_for (view c.args.value.now) fact.0 = fact.1 in
    let same : items_view values ≡ item is.0 (item is.1 no_items) = cc (c.in_ok-items_of.ensures.read, is.2) in
    let count = two_items values is.0 is.1 same in
    elim c.in_default.branch [
      | in_default-via-then-branch-lt2 w ↦ search (rules, count)
      | in_default-via-else-branch-lt2+else-this-lt3 w ↦ search (rules, count)
    ])
