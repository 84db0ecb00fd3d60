use Rattle.std.proofs.Common.{◌≡◌}
use Rattle.filterset_expression.specs.Expression.{formula}
use Rattle.filterset_record.specs.Operators.{applied}
use Rattle.filterset_record.proofs.operators.list_operators.Given as goal

abbrev pub invariant-loop-node : goal.invariant-loop-node
invariant-loop-node l = applied l.operators.items (formula l.node) ≡ applied l.fn.operators.items (formula l.expr)
