-- Which tests a runner runs, by the filtersets that it is given and the default filter.
use Rattle.std.specs.Prelude.{◌≡◌, ◌↔◌, ◌⊎◌, Bool, true, false, IsTrue, List, []}
use Rattle.std.specs.List.{AllZip, Any}
use Rattle.filterset_faults.specs.declared.span.SourceSpan.{SourceSpan}
use Rattle.filterset_graph.specs.declared.package.PackageMetadata.{PackageMetadata}
use Rattle.filterset_grammar.specs.Tree.{Tree}
use Rattle.filterset_expression.specs.Expression.{HoldsOfBinary, HoldsOfTest, formula, has_leaf, is_default, is_of_test}
use Rattle.filterset_expression.specs.{Formula.TrueWhere, Meaning.IsCompiled, Values.CanBe}
use Rattle.filterset_expression.specs.declared.expression.CompiledExpr.{CompiledExpr}
use Rattle.filterset_expression.specs.declared.query.{BinaryQuery.BinaryQuery, TestQuery.TestQuery}
use Rattle.filterset_listing.specs.Asking.{ExprCanPick, ExprPicks, Text, TreeCanPick, TreePicks, in_group}

-- the default filter does so, unless it is ignored, and one of the filtersets does, if there are any
abbrev pub RunDoes : {A : Type 0} → Bool → Type 0 → (A → Type 0) → List A → Type 0
RunDoes ignores DefaultDoes Does filters = (IsTrue ignores ⊎ DefaultDoes) × ((filters ≡ []) ⊎ Any Does filters)

-- the selection picks what the default filter and the expressions pick, and can pick what they can, whatever the default
-- filter is
pub record IsSelection (ignores_default : Bool) (exprs : List CompiledExpr) (selection : CompiledExpr) : Type 0 where
  pub picks : (default : CompiledExpr) (test : TestQuery) (group : Text) → ExprPicks default selection test group
      ↔ RunDoes ignores_default (TrueWhere (HoldsOfTest test (in_group group)) (formula default))
      (λ expr. ExprPicks default expr test group) exprs
  pub can_pick : (default : CompiledExpr) (binary : BinaryQuery) → ExprCanPick default selection binary
      ↔ RunDoes ignores_default (CanBe is_of_test (HoldsOfBinary binary) (formula default) true)
      (λ expr. ExprCanPick default expr binary) exprs

-- a runner runs the test in this group, if the default filter and the filtersets have these trees
abbrev pub RunPicks :
    List PackageMetadata → Bool → CompiledExpr → Tree SourceSpan → List (Tree SourceSpan) → TestQuery → Text → Type 0
RunPicks packages ignores_default default default_tree trees test group = RunDoes ignores_default
    (TreePicks packages default default_tree test group) (λ tree. TreePicks packages default tree test group) trees

-- it can run a test of the binary
abbrev pub RunCanPick :
    List PackageMetadata → Bool → CompiledExpr → Tree SourceSpan → List (Tree SourceSpan) → BinaryQuery → Type 0
RunCanPick packages ignores_default default default_tree trees binary = RunDoes ignores_default
    (TreeCanPick packages default default_tree binary) (λ tree. TreeCanPick packages default tree binary) trees

-- If the expressions are compiled trees, and so is the default filter, in which no leaf is `default`, then the selection
-- picks and can pick what a runner runs and can run by these trees.
abbrev pub MeansSelection : Bool → List CompiledExpr → CompiledExpr → Type 0
MeansSelection ignores_default exprs selection = (packages : List PackageMetadata) (default : CompiledExpr)
    (default_tree : Tree SourceSpan) (trees : List (Tree SourceSpan)) → IsCompiled packages default_tree default
    → has_leaf is_default default ≡ false → AllZip (IsCompiled packages) trees exprs
    → ((test : TestQuery) (group : Text) → ExprPicks default selection test group
    ↔ RunPicks packages ignores_default default default_tree trees test group)
    × ((binary : BinaryQuery)
    → ExprCanPick default selection binary ↔ RunCanPick packages ignores_default default default_tree trees binary)
