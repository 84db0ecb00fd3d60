use Rattle.std.proofs.Common.{◌≡◌, ◌↔◌, Bool, true, false, List, Option, Some, None, subst, rules}
use Rattle.std.proofs.lemmas.Result.{IfOk-weaker}
use Rattle.filterset_faults.specs.declared.span.SourceSpan.{SourceSpan}
use Rattle.filterset_graph.specs.declared.package.PackageMetadata.{PackageMetadata}
use Rattle.filterset_grammar.specs.Tree.{Tree}
use Rattle.filterset_expression.specs.BinaryMeaning.{IsDefiniteTree, IsUndecidedTree}
use Rattle.filterset_expression.specs.Expression.{CompiledLeaf, compiled_leaf, is_of_test, with_default, HoldsOfBinary, IsDefinite, IsUndecided}
use Rattle.filterset_expression.specs.FlatExpressions.{IsFlat, IsFlatOfTree, IsTold}
use Rattle.filterset_expression.specs.{Folds.Folds, Folds.Settles, Formula.Formula}
use Rattle.filterset_expression.specs.Connectives.{Decides, kleene_not, kleene}
use Rattle.filterset_expression.specs.declared.{expression.CompiledExpr.CompiledExpr, flat.asked.AskedLeaf.AskedLeaf}
use Rattle.filterset_expression.specs.declared.query.BinaryQuery.{BinaryQuery}
use Rattle.filterset_expression.proofs.BinaryMeanings.{compiled_definite, compiled_undecided}
use Rattle.filterset_expression.proofs.{Exact.fold_definite, Exact.fold_open, Folding.folds_more}
use Rattle.filterset_expression.proofs.flat.FlatExpr.matches_binary.Goals as goal

-- what a run of the steps folds
folded : (binary : BinaryQuery) (of_leaf : AskedLeaf → Option Bool → Type 0) → ((asked : AskedLeaf) (x : Option Bool) → of_leaf asked x → Settles is_of_test (HoldsOfBinary binary) (compiled_leaf asked.leaf.now) x) → (f : Formula CompiledLeaf) (value : Option Bool) → Folds kleene_not kleene (Decides (Some true) (Some false)) (λ leaf x. (asked : AskedLeaf) × (compiled_leaf asked.leaf.now ≡ leaf) × of_leaf asked x) f value → Folds kleene_not kleene (Decides (Some true) (Some false)) (Settles is_of_test (HoldsOfBinary binary)) f value
folded binary of_leaf settles f value run =
    let gives = Settles is_of_test (HoldsOfBinary binary) in
    folds_more kleene_not kleene (Decides (Some true) (Some false)) _ gives (λ leaf x p. subst (λ l. gives l x) p.1 (settles p.0 x p.2)) f value run

pub returns-clause-told : goal.returns-clause-told
returns-clause-told c =
    IfOk-weaker c.run.result _ (λ answer. IsTold c.args.self.now c.args.query.now answer) (λ answer run expr default flat. folded c.args.query.now _ (λ asked x p. search (rules, p)) (with_default default expr) answer (run (with_default default expr) flat)) c.run.ensures

pub returns-clause-definite : goal.returns-clause-definite
returns-clause-definite c =
    IfOk-weaker c.run.result _ (λ answer. (expr default : CompiledExpr) → IsFlat c.args.self.now expr default → (b : Bool) → (answer ≡ Some b) ↔ IsDefinite expr c.args.query.now default b) (λ answer told expr default flat. fold_definite is_of_test (HoldsOfBinary c.args.query.now) (with_default default expr) answer (told expr default flat)) (returns-clause-told c)

pub returns-clause-undecided : goal.returns-clause-undecided
returns-clause-undecided c =
    IfOk-weaker c.run.result _ (λ answer. (expr default : CompiledExpr) → IsFlat c.args.self.now expr default → (answer ≡ None) ↔ IsUndecided expr c.args.query.now default) (λ answer told expr default flat. fold_open is_of_test (HoldsOfBinary c.args.query.now) (with_default default expr) answer (told expr default flat)) (returns-clause-told c)

pub returns-clause-meaning : goal.returns-clause-meaning
returns-clause-meaning c =
    let binary = c.args.query.now in
    IfOk-weaker c.run.result _ (λ answer. (packages : List PackageMetadata) (e : Tree SourceSpan) (default : CompiledExpr) → IsFlatOfTree c.args.self.now packages e default → (b : Bool) → (answer ≡ Some b) ↔ IsDefiniteTree e packages binary default b) (λ answer h packages e default of_tree b. let k = compiled_definite packages binary default e of_tree.0 of_tree.1 b in let own = h of_tree.0 default of_tree.2 b in (λ same. k.0 (own.0 same), λ definite. own.1 (k.1 definite))) (returns-clause-definite c)

pub returns-clause-unknown : goal.returns-clause-unknown
returns-clause-unknown c =
    let binary = c.args.query.now in
    IfOk-weaker c.run.result _ (λ answer. (packages : List PackageMetadata) (e : Tree SourceSpan) (default : CompiledExpr) → IsFlatOfTree c.args.self.now packages e default → (answer ≡ None) ↔ IsUndecidedTree e packages binary default) (λ answer h packages e default of_tree. let k = compiled_undecided packages binary default e of_tree.0 of_tree.1 in let own = h of_tree.0 default of_tree.2 in (λ none. k.0 (own.0 none), λ both. own.1 (k.1 both))) (returns-clause-undecided c)
