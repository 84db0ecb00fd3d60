use Rattle.std.proofs.Common.{◌≡◌, ◌↔◌, Bool, true, false, List, not, subst, rules}
use Rattle.std.specs.Bool.{IsTrue}
use Rattle.std.proofs.lemmas.Result.{IfOk-weaker}
use Rattle.filterset_faults.specs.declared.span.SourceSpan.{SourceSpan}
use Rattle.filterset_graph.specs.declared.package.PackageMetadata.{PackageMetadata}
use Rattle.filterset_grammar.specs.Tree.{Tree}
use Rattle.filterset_expression.specs.Expression.{no_groups, compiled_leaf, with_default, HoldsOfTest, Holds, IsDefinite}
use Rattle.filterset_expression.specs.FlatExpressions.{IsFlat, IsFlatOfTree}
use Rattle.filterset_expression.specs.Connectives.{Decides, connected}
use Rattle.filterset_expression.specs.{Meaning.Meaning, declared.expression.CompiledExpr.CompiledExpr}
use Rattle.filterset_expression.proofs.Folding.{folds_more, fold_decides}
use Rattle.filterset_expression.proofs.LeafAnswers.{definite_of_test, lookups_alike}
use Rattle.filterset_expression.proofs.{Meanings.compiled_means, FlatSteps.no_group_of_steps}
use Rattle.filterset_expression.proofs.flat.FlatExpr.matches_test_with_groups.Goals as goal

pub returns-clause-holds : goal.returns-clause-holds
returns-clause-holds g c =
    let lookup = (goal.GroupLookup-dyn g c.args.groups.now).GroupLookup.matches_group c.args.groups.now.1 in
    let holds = HoldsOfTest c.args.query.now lookup in
    IfOk-weaker c.run.result _ (λ answer. (expr default : CompiledExpr) → IsFlat c.args.self.now expr default → (IsTrue answer ↔ (Holds expr c.args.query.now default lookup))) (λ value run expr default flat. fold_decides holds (with_default default expr) value (folds_more not connected (Decides true false) _ _ (λ leaf x p. let own : (IsTrue x ↔ (holds (compiled_leaf p.0.leaf.now))) = search (rules, p.2) in subst (λ l. (IsTrue x ↔ (holds l))) p.1 own) (with_default default expr) value (run (with_default default expr) flat))) c.run.ensures

pub returns-clause-settled : goal.returns-clause-settled
returns-clause-settled g c =
    let lookup = (goal.GroupLookup-dyn g c.args.groups.now).GroupLookup.matches_group c.args.groups.now.1 in
    IfOk-weaker c.run.result _ (λ answer. (expr default : CompiledExpr) → IsFlat c.args.self.now expr default → (b : Bool) → IsDefinite expr c.args.query.now.binary_query default b → answer ≡ b) (λ answer h expr default flat b. definite_of_test expr default c.args.query.now lookup answer b (h expr default flat)) (returns-clause-holds g c)

pub returns-clause-ungrouped : goal.returns-clause-ungrouped
returns-clause-ungrouped g c = λ none.
    let lookup = (goal.GroupLookup-dyn g c.args.groups.now).GroupLookup.matches_group c.args.groups.now.1 in
    let test = c.args.query.now in
    IfOk-weaker c.run.result _ (λ answer. (expr default : CompiledExpr) → IsFlat c.args.self.now expr default → (IsTrue answer ↔ (Holds expr test default no_groups))) (λ answer h expr default flat. let e = lookups_alike (with_default default expr) test lookup no_groups (no_group_of_steps c.args.self.now.steps.items expr default flat none) in let k = h expr default flat in (λ yes. e.0 (k.0 yes), λ held. k.1 (e.1 held))) (returns-clause-holds g c)

pub returns-clause-meaning : goal.returns-clause-meaning
returns-clause-meaning g c =
    let lookup = (goal.GroupLookup-dyn g c.args.groups.now).GroupLookup.matches_group c.args.groups.now.1 in
    let test = c.args.query.now in
    IfOk-weaker c.run.result _ (λ answer. (packages : List PackageMetadata) (e : Tree SourceSpan) (default : CompiledExpr) → IsFlatOfTree c.args.self.now packages e default → (IsTrue answer ↔ (Meaning e packages test default lookup))) (λ answer h packages e default of_tree. let k = compiled_means packages test default lookup e of_tree.0 of_tree.1 in let own = h of_tree.0 default of_tree.2 in (λ yes. k.0 (own.0 yes), λ means. own.1 (k.1 means))) (returns-clause-holds g c)
