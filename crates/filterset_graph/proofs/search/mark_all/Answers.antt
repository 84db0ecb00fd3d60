use Rattle.std.proofs.Common.{◌<◌, length, get_or, arith}
use Rattle.filterset_graph.proofs.Steps.{MarksAll-step_again, MarksAll-step_more}
use Rattle.filterset_graph.proofs.search.mark_all.Goals as goal
use Rattle.filterset_graph.proofs.search.mark_all.Goals.{then-not-marks-position+in_ok-push, else-not-marks-position}

pub loop-position-preserved : goal.loop-position-preserved
loop-position-preserved c =
    elim c.if-not-marks-position.branch [
      | then-not-marks-position+in_ok-push w ↦
          (let within : get_or c.args.positions.now c.loop-position.position-index 0 < length c.loop-position.marks = omega (arith, c.requires c.loop-position.position-index 0 c.loop-position-test.true) in
          rw (w.marks-is, w.pending-is, w.in_ok-push.ensures.items) (MarksAll-step_more c.args.positions.now c.loop-position.position-index c.args.marks.now c.loop-position.marks c.args.pending.now.items c.loop-position.pending.items c.loop-position-test.true c.loop-position.invariant within w.if-not-marks-position.true))
      | else-not-marks-position w ↦
          rw (w.marks-is, w.pending-is) (MarksAll-step_again c.args.positions.now c.loop-position.position-index c.args.marks.now c.loop-position.marks c.args.pending.now.items c.loop-position.pending.items c.loop-position-test.true c.loop-position.invariant w.if-not-marks-position.false)
    ]
