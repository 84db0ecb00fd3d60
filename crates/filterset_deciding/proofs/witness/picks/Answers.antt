use Rattle.std.proofs.Common.{◌↔◌, IfOk, IsTrue, subst}
use Rattle.filterset_expression.specs.Expression.{Holds, Lookup}
use Rattle.filterset_expression.specs.{FlatExpressions.IsFlat, declared.expression.CompiledExpr.CompiledExpr}
use Rattle.filterset_deciding.proofs.witness.picks.OwnLists.{reads-GroupLookup-matches_group-1-1}
use Rattle.filterset_deciding.proofs.witness.picks.Goals as goal

pub returns : goal.returns
returns c =
    subst (λ (lookup : Lookup). IfOk c.matches_test_with_groups.result (λ answer. (expr default : CompiledExpr) → IsFlat c.args.flat.now expr default → IsTrue answer ↔ Holds expr c.args.query.now default lookup))
    (reads-GroupLookup-matches_group-1-1 _ c.args.lookup) c.matches_test_with_groups.ensures.holds
