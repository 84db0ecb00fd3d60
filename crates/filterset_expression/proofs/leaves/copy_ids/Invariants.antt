use Rattle.std.proofs.Common.{◌≡◌, ◌++◌}
use Rattle.filterset_expression.proofs.leaves.copy_ids.Given as goal

abbrev pub invariant-loop-id : goal.invariant-loop-id
invariant-loop-id l = l.copy.keys ++ l.id-iterator ≡ l.ids.keys
