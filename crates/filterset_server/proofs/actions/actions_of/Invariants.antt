use Rattle.std.proofs.Common.{map}
use Rattle.std.specs.List.{range_with_len}
use Rattle.serde_json.specs.View.{view}
use Rattle.filterset_documents.specs.Joins.{Joins}
use Rattle.filterset_server.specs.{Actions.ActionsAt, Subjects.subject_row}
use Rattle.filterset_server.proofs.actions.actions_of.Given as goal

-- the filtersets so far have their actions
abbrev pub invariant-loop-at : goal.invariant-loop-at
invariant-loop-at l = Joins (ActionsAt (subject_row l.subject)) (range_with_len 0 l.at) (map view l.values.items)
