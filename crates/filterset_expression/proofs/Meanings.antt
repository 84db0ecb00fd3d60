-- What a compiled expression says is what its tree means.
use Rattle.std.proofs.Common.{◌≡◌, ◌↔◌, List, refl, sym, ◌∙◌, ap, subst, IsTrue}
use Rattle.std.specs.List.{list_any}
use Rattle.filterset_faults.specs.declared.span.SourceSpan.{SourceSpan}
use Rattle.filterset_graph.specs.declared.package.PackageMetadata.{PackageMetadata}
use Rattle.filterset_expression.specs.Expression as compiled
use Rattle.filterset_expression.specs.Expression.{CompiledLeaf, formula, leaf_with_default, with_default, has_leaf, Lookup, HoldsOfTest, Holds}
use Rattle.filterset_expression.specs.Formula.{leaves, TrueWhere}
use Rattle.filterset_expression.specs.Meaning.{tree_formula, has_tree_leaf, MeansOfTest, Meaning, SaysTheSame, IsCompiledLeaf, IsCompiled}
use Rattle.filterset_expression.specs.declared.{expression.CompiledExpr.CompiledExpr, query.TestQuery.TestQuery}
use Rattle.filterset_expression.proofs.Connectives.{leaves-joined}
use Rattle.filterset_expression.proofs.Shapes.{same_truth, same_test, truth-replaced}
use Rattle.filterset_matchers.specs.Matcher.{MatchesName}
use Rattle.filterset_expression.specs.Meaning as meaning
use Rattle.filterset_grammar.specs.Tree as tree
use Rattle.filterset_grammar.specs.Tree.{Leaf, Tree, Matching, Platform, Default, Not, Union, Join, Parens, Set, tree_leaves}
use Rattle.filterset_grammar.specs.declared.predicate.Predicate.TheVariants.{Package, Deps, Rdeps, Kind, Binary, BinaryId, Test, Group}

pub alike : (P : Type 0) → P ↔ P
alike P = (λ p. p, λ p. p)

pub alike_at : {A : Type 0} (P : A → Type 0) (x y : A) → x ≡ y → P x ↔ P y
alike_at P x y e = (λ p. subst P e p, λ p. subst P (sym e) p)

module _ (packages : List PackageMetadata) (test : TestQuery) (default : CompiledExpr) (lookup : Lookup) where
  -- a leaf and what it is compiled to, with the default filter in its place, say the same
  leaf_means : (l : Leaf SourceSpan) (c : CompiledLeaf) → IsCompiledLeaf packages l c
      → MeansOfTest packages test default lookup l ↔ TrueWhere (HoldsOfTest test lookup) (leaf_with_default default c)
  leaf_means (Matching Package m s) (compiled.Packages ids) are = let e = are test.binary_query.package_id.now in (e.1, e.0)
  leaf_means (Matching Deps m s) (compiled.Packages ids) are = let e = are test.binary_query.package_id.now in (e.1, e.0)
  leaf_means (Matching Rdeps m s) (compiled.Packages ids) are = let e = are test.binary_query.package_id.now in (e.1, e.0)
  leaf_means (Matching Kind m s) (compiled.Kind n t) are = alike_at (λ k. MatchesName k test.binary_query.kind.now) m n are.0
  leaf_means (Matching Binary m s) (compiled.Binary n t) are = alike_at (λ k. MatchesName k test.binary_query.binary_name.now) m n are.0
  leaf_means (Matching BinaryId m s) (compiled.BinaryId n t) are = alike_at (λ k. MatchesName k test.binary_query.binary_id.now) m n are.0
  leaf_means (Matching Test m s) (compiled.Test n t) are = alike_at (λ k. MatchesName k test.test_name.now) m n are.0
  leaf_means (Matching Group m s) (compiled.Group n t) are = alike_at (λ k. lookup test k) m n are.0
  leaf_means (Platform p s) (compiled.Platform q t) are = alike_at (λ k. test.binary_query.platform ≡ k) p q are.0
  leaf_means (Default s) compiled.Default are = alike (TrueWhere (HoldsOfTest test lookup) (formula default))
  leaf_means tree.All compiled.All are = alike (Unit {0})
  leaf_means tree.None compiled.None are = alike ⊥
  leaf_means _ _ are = absurd are

  -- a tree and what it is compiled to say the same
  pub compiled_means : (e : Tree SourceSpan) (c : CompiledExpr) → IsCompiled packages e c
      → Holds c test default lookup ↔ Meaning e packages test default lookup
  compiled_means e c is =
      let k = same_truth (IsCompiledLeaf packages) (MeansOfTest packages test default lookup) (λ leaf. TrueWhere (HoldsOfTest test lookup) (leaf_with_default default leaf)) leaf_means (tree_formula e) (formula c) is in
      rw (truth-replaced (HoldsOfTest test lookup) (leaf_with_default default) (formula c)) (k.1, k.0)

-- the same for a lookup that is a test
pub says_the_same : (packages : List PackageMetadata) (e : Tree SourceSpan) (c : CompiledExpr) → IsCompiled packages e c → SaysTheSame packages e c
says_the_same packages e c is = λ test default lookup. compiled_means packages test default (λ t m. IsTrue (lookup t m)) e c is

-- the leaves of a tree are those of its formula
leaves-formula : {S : Type 0} (e : Tree S) → leaves (tree_formula e) ≡ tree_leaves e
leaves-formula (Not op e) = leaves-formula e
leaves-formula (Union op a b) = rw (leaves-formula a, leaves-formula b) refl
leaves-formula (Join op a b) = rw (leaves-joined op (tree_formula a) (tree_formula b), leaves-formula a, leaves-formula b) refl
leaves-formula (Parens e) = leaves-formula e
leaves-formula (Set leaf) = refl

module _ (packages : List PackageMetadata) where
  default_alike : (l : Leaf SourceSpan) (c : CompiledLeaf) → IsCompiledLeaf packages l c → meaning.is_default_predicate l ≡ compiled.is_default c
  default_alike (Matching Package m s) (compiled.Packages ids) are = refl
  default_alike (Matching Deps m s) (compiled.Packages ids) are = refl
  default_alike (Matching Rdeps m s) (compiled.Packages ids) are = refl
  default_alike (Matching Kind m s) (compiled.Kind n t) are = refl
  default_alike (Matching Binary m s) (compiled.Binary n t) are = refl
  default_alike (Matching BinaryId m s) (compiled.BinaryId n t) are = refl
  default_alike (Matching Test m s) (compiled.Test n t) are = refl
  default_alike (Matching Group m s) (compiled.Group n t) are = refl
  default_alike (Platform p s) (compiled.Platform q t) are = refl
  default_alike (Default s) compiled.Default are = refl
  default_alike tree.All compiled.All are = refl
  default_alike tree.None compiled.None are = refl
  default_alike _ _ are = absurd are

  group_alike : (l : Leaf SourceSpan) (c : CompiledLeaf) → IsCompiledLeaf packages l c → meaning.is_group_predicate l ≡ compiled.is_group c
  group_alike (Matching Package m s) (compiled.Packages ids) are = refl
  group_alike (Matching Deps m s) (compiled.Packages ids) are = refl
  group_alike (Matching Rdeps m s) (compiled.Packages ids) are = refl
  group_alike (Matching Kind m s) (compiled.Kind n t) are = refl
  group_alike (Matching Binary m s) (compiled.Binary n t) are = refl
  group_alike (Matching BinaryId m s) (compiled.BinaryId n t) are = refl
  group_alike (Matching Test m s) (compiled.Test n t) are = refl
  group_alike (Matching Group m s) (compiled.Group n t) are = refl
  group_alike (Platform p s) (compiled.Platform q t) are = refl
  group_alike (Default s) compiled.Default are = refl
  group_alike tree.All compiled.All are = refl
  group_alike tree.None compiled.None are = refl
  group_alike _ _ are = absurd are

  -- a `default` leaf is held by both or by neither
  pub same_defaults : (e : Tree SourceSpan) (c : CompiledExpr) → IsCompiled packages e c → has_leaf compiled.is_default c ≡ has_tree_leaf meaning.is_default_predicate e
  same_defaults e c is =
      sym (same_test (IsCompiledLeaf packages) meaning.is_default_predicate compiled.is_default default_alike (tree_formula e) (formula c) is) ∙ ap (list_any meaning.is_default_predicate) (leaves-formula e)

  -- a `group` leaf is held by both or by neither
  pub same_groups : (e : Tree SourceSpan) (c : CompiledExpr) → IsCompiled packages e c → has_leaf compiled.is_group c ≡ has_tree_leaf meaning.is_group_predicate e
  same_groups e c is =
      sym (same_test (IsCompiledLeaf packages) meaning.is_group_predicate compiled.is_group group_alike (tree_formula e) (formula c) is) ∙ ap (list_any meaning.is_group_predicate) (leaves-formula e)
