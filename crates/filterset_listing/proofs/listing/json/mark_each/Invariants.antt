use Rattle.serde_json.specs.View.{members_view}
use Rattle.filterset_listing.specs.ListJson.{MarksEach}
use Rattle.filterset_listing.proofs.MarkingLemmas.{Made}
use Rattle.filterset_listing.proofs.listing.json.mark_each.Given as goal

-- the members so far were changed
abbrev pub invariant-loop-name : goal.invariant-loop-name
invariant-loop-name g l =
    Made (MarksEach (g.M.Mark.marks l.mark)) (MarksEach (g.M.Mark.marks l.mark)) (members_view l.initial.name-iterator) l.marked.entries l.name-iterator
