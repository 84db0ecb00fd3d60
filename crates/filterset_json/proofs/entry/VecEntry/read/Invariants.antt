use Rattle.std.proofs.Common.{map, take}
use Rattle.serde_json.specs.View.{items_view}
use Rattle.filterset_json.specs.Shape.{Each}
use Rattle.filterset_json.proofs.entry.VecEntry.read.Given as goal

-- an entry for each value so far
abbrev pub invariant-loop-at : goal.invariant-loop-at
invariant-loop-at g l =
    Each g.T.Entry.stands_for (items_view (take l.at l.values)) (map g.T.Entry.row_of l.all.items)
