use Rattle.std.proofs.Common.{◌≡◌, length}
use Rattle.filterset_expression.specs.Expression.{CompiledLeaf, HoldsOfTest, formula, leaf_with_default}
use Rattle.filterset_expression.specs.Formula.{Formula, TrueWhere, leaves, replaced}
use Rattle.filterset_record.specs.{Columns.names_of, Columns.test_of, Columns.AnsweredWhere, Operators.applied}
use Rattle.filterset_record.specs.contracts.evaluating.evaluate_where as clauses
use Rattle.filterset_record.specs.contracts.evaluating.evaluate_where.dyn-1 as dyn
use Rattle.filterset_record.proofs.evaluating.+evaluate_where.Given as goal

abbrev pub decreases-evaluate_where : goal.decreases-evaluate_where
decreases-evaluate_where g l = length (leaves (formula l.expr.now))

abbrev pub invariant-loop-operator : goal.invariant-loop-operator
invariant-loop-operator g l = record {
  below : Formula CompiledLeaf;
  whole : applied l.operators.items below ≡ formula l.expr;
  answered : AnsweredWhere l.wanted l.column (names_of l.tests.names.now) (λ name. TrueWhere (HoldsOfTest (test_of l.tests.query.now name) ((dyn.members (clauses.dyn-1-ghosts g.dyn-1) l.groups.now).PlacedLookup.matches_group l.groups.now.1)) (replaced (leaf_with_default l.tests.filter.now) below));
}

abbrev pub decreases-loop-operator : goal.decreases-loop-operator
decreases-loop-operator g l = length l.operators.items
