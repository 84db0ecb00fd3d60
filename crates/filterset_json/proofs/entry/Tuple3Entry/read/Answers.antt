use Rattle.std.proofs.Common.{rules, ◌≡◌}
use Rattle.serde_json.specs.{Data.item, Data.no_items, View.items_view, View.view}
use Rattle.filterset_json.specs.Shape.{IsTriple}
use Rattle.filterset_json.proofs.{RefusalLemmas.Refuses-not, ShapeLemmas.three_items}
use Rattle.filterset_json.proofs.entry.Tuple3Entry.read.Goals.{in_default-via-then-branch-lt3, in_default-via-else-branch-lt3+else-this-lt4}
use Rattle.filterset_json.proofs.entry.Tuple3Entry.read.Goals as goal

-- a list of another length is none of 3 items
pub returns-in_default-clause-refused : goal.returns-in_default-clause-refused
returns-in_default-clause-refused g c =
    Refuses-not c.wrong.result
    (λ fact.
    let values = c.in_ok-items_of.field-0.now in
    let is : IsTriple g.A.Entry.stands_for g.B.Entry.stands_for g.C.Entry.stands_for (view c.args.value.now) fact.0 = fact.1 in
    let same : items_view values ≡ item is.0 (item is.1 (item is.2 no_items)) = cc (c.in_ok-items_of.ensures.read, is.3) in
    let count = three_items values is.0 is.1 is.2 same in
    elim c.in_default.branch [
      | in_default-via-then-branch-lt3 w ↦ search (rules, count)
      | in_default-via-else-branch-lt3+else-this-lt4 w ↦ search (rules, count)
    ])
