use Rattle.std.proofs.{Common.arith, Common.◌<◌, Common.length, lemmas.List.take_all}
use Rattle.serde_json.specs.View.{view}
use Rattle.filterset_documents.specs.Joins.{no_parts}
use Rattle.filterset_server.specs.{Actions.FaultActions, Subjects.target_row}
use Rattle.filterset_server.proofs.ActionLemmas.{Joins-next}
use Rattle.filterset_server.proofs.actions.mending_actions.Goals as goal

pub returns : goal.returns
returns c =
    let are = c.loop-fault.invariant in
    rw (take_all c.loop-fault.fault-index c.args.faults.now c.loop-fault-test.false) at are

pub loop-fault-init : goal.loop-fault-init
loop-fault-init c = rw c.new-values.ensures.items no_parts

pub loop-fault-preserved : goal.loop-fault-preserved
loop-fault-preserved c =
    let faults = c.args.faults.now in
    let i = c.loop-fault.fault-index in
    let lt : i < length faults = omega (arith, c.loop-fault-test.true) in
    rw c.in_ok-append.ensures.items
    (Joins-next (FaultActions (target_row c.args.target.now)) view faults i _
    c.loop-fault.values.items c.in_ok-more.more.items lt c.loop-fault.invariant c.in_ok-more.ensures)
