use Rattle.std.proofs.Common.{drop, map}
use Rattle.std.specs.Prelude.{All}
use Rattle.filterset_expression.specs.{FlatExpressions.IsFlat, declared.expression.CompiledExpr.CompiledExpr}
use Rattle.filterset_listing.specs.{Asking.ExprPicks, Groups.IsAnswer}
use Rattle.filterset_listing.specs.Overrides.{Finishes, MayApply, given_of}
use Rattle.filterset_listing.specs.declared.groups.TestAnswer.{TestAnswer}
use Rattle.filterset_listing.proofs.groups.answer.Given as goal

-- the answer that the walk over the other overrides gives, after what was seen, is that of the walk over all of them
abbrev pub invariant-loop-row : goal.invariant-loop-row
invariant-loop-row l =
    (expr default : CompiledExpr) → IsFlat l.flat expr default → All (MayApply default l.query.binary_query) l.rows → (answer : TestAnswer)
    → Finishes default l.query (ExprPicks default expr l.query) l.seen (map given_of (drop l.row-index l.rows)) answer
    → IsAnswer default (map given_of l.rows) l.query (ExprPicks default expr l.query) answer
