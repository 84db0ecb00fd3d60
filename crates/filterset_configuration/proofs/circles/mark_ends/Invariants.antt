use Rattle.filterset_configuration.proofs.EndLemmas.{MarksEndsBelow}
use Rattle.filterset_configuration.proofs.circles.mark_ends.Given as goal

-- the ends of the positions so far are marked
abbrev pub invariant-loop-to : goal.invariant-loop-to
invariant-loop-to l = MarksEndsBelow l.leads l.to-index l.marks.items
