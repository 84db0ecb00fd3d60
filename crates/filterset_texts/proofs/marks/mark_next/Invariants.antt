use Rattle.filterset_texts.specs.Places.{row_of}
use Rattle.filterset_texts.proofs.Marking.{FollowsTo}
use Rattle.filterset_texts.proofs.marks.mark_next.Given as goal

abbrev pub invariant-loop-index : goal.invariant-loop-index
invariant-loop-index l = FollowsTo (row_of l.places) l.marks l.admitted l.index l.was_reached l.reached l.next.items
