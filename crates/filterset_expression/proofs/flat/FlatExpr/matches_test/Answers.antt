use Rattle.std.proofs.Common.{◌≡◌, ◌↔◌, Bool, true, false, List, not, subst, rules}
use Rattle.std.specs.Bool.{IsTrue}
use Rattle.std.proofs.lemmas.Result.{IfOk-weaker}
use Rattle.filterset_faults.specs.declared.span.SourceSpan.{SourceSpan}
use Rattle.filterset_graph.specs.declared.package.PackageMetadata.{PackageMetadata}
use Rattle.filterset_grammar.specs.Tree.{Tree}
use Rattle.filterset_expression.specs.Expression.{no_groups, compiled_leaf, with_default, HoldsOfTest, Holds, IsDefinite}
use Rattle.filterset_expression.specs.FlatExpressions.{IsFlat, IsFlatOfTree}
use Rattle.filterset_expression.specs.Connectives.{Decides, connected}
use Rattle.filterset_expression.specs.{Meaning.Meaning, declared.expression.CompiledExpr.CompiledExpr}
use Rattle.filterset_expression.proofs.Folding.{folds_more, fold_decides}
use Rattle.filterset_expression.proofs.{LeafAnswers.definite_of_test, Meanings.compiled_means}
use Rattle.filterset_expression.proofs.flat.FlatExpr.matches_test.Goals as goal

pub returns-clause-holds : goal.returns-clause-holds
returns-clause-holds c =
    let holds = HoldsOfTest c.args.query.now no_groups in
    IfOk-weaker c.run.result _ (λ answer. (expr default : CompiledExpr) → IsFlat c.args.self.now expr default → (IsTrue answer ↔ (Holds expr c.args.query.now default no_groups))) (λ value run expr default flat. fold_decides holds (with_default default expr) value (folds_more not connected (Decides true false) _ _ (λ leaf x p. let own : (IsTrue x ↔ (holds (compiled_leaf p.0.leaf.now))) = search (rules, p.2) in subst (λ l. (IsTrue x ↔ (holds l))) p.1 own) (with_default default expr) value (run (with_default default expr) flat))) c.run.ensures

pub returns-clause-settled : goal.returns-clause-settled
returns-clause-settled c =
    IfOk-weaker c.run.result _ (λ answer. (expr default : CompiledExpr) → IsFlat c.args.self.now expr default → (b : Bool) → IsDefinite expr c.args.query.now.binary_query default b → answer ≡ b) (λ answer h expr default flat b. definite_of_test expr default c.args.query.now no_groups answer b (h expr default flat)) (returns-clause-holds c)

pub returns-clause-meaning : goal.returns-clause-meaning
returns-clause-meaning c =
    let test = c.args.query.now in
    IfOk-weaker c.run.result _ (λ answer. (packages : List PackageMetadata) (e : Tree SourceSpan) (default : CompiledExpr) → IsFlatOfTree c.args.self.now packages e default → (IsTrue answer ↔ (Meaning e packages test default no_groups))) (λ answer h packages e default of_tree. let k = compiled_means packages test default no_groups e of_tree.0 of_tree.1 in let own = h of_tree.0 default of_tree.2 in (λ yes. k.0 (own.0 yes), λ means. own.1 (k.1 means))) (returns-clause-holds c)
