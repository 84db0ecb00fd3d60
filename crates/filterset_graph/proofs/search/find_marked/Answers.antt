use Rattle.std.proofs.{Common.◌<◌, Common.length, Common.true, Common.arith, lemmas.Option.slice_get_within}
use Rattle.filterset_graph.proofs.Steps.{ListsMarked-push, ListsMarked-skip}
use Rattle.filterset_graph.proofs.search.find_marked.Goals.{then-marked+in_ok-push, else-marked}
use Rattle.filterset_graph.proofs.search.find_marked.Goals as goal

pub loop-position-preserved : goal.loop-position-preserved
loop-position-preserved c =
    elim c.if-marked.branch [
      | then-marked+in_ok-push w ↦ rw (w.positions-is, w.in_ok-push.ensures.items) (ListsMarked-push c.args.marks.now c.loop-position.position c.loop-position.positions.items w.if-marked.true c.loop-position.invariant)
      | else-marked w ↦ rw w.positions-is (ListsMarked-skip c.args.marks.now c.loop-position.position c.loop-position.positions.items w.if-marked.false c.loop-position.invariant)
    ]

pub returns : goal.returns
returns c = λ k. ((λ h. ((c.loop-position.invariant k).0 h).1), (λ m. (c.loop-position.invariant k).1 (let within : k < length c.args.marks.now = slice_get_within c.args.marks.now k true m in omega arith, m)))
