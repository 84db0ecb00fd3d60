use Rattle.filterset_expression.specs.Expression.{formula}
use Rattle.filterset_expression.proofs.Passing.{own_default}
use Rattle.filterset_record.proofs.evaluating.evaluate_itself.Goals as goal

pub returns : goal.returns
returns g c = rw (← own_default (formula c.args.expr.now)) c.evaluate.ensures
