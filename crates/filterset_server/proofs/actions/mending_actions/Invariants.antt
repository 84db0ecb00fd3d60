use Rattle.std.proofs.Common.{map, take}
use Rattle.serde_json.specs.View.{view}
use Rattle.filterset_documents.specs.Joins.{Joins}
use Rattle.filterset_server.specs.{Actions.FaultActions, Subjects.target_row}
use Rattle.filterset_server.proofs.actions.mending_actions.Given as goal

-- the faults so far have their actions
abbrev pub invariant-loop-fault : goal.invariant-loop-fault
invariant-loop-fault l = Joins (FaultActions (target_row l.target)) (take l.fault-index l.faults) (map view l.values.items)
