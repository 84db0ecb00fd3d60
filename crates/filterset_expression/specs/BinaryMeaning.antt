-- What a filterset's tree means for a binary, whatever the tests' names and groups are.
use Rattle.std.specs.Prelude.{◌≡◌, ◌↔◌, Bool, true, false, List}
use Rattle.filterset_faults.specs.declared.span.SourceSpan.{SourceSpan}
use Rattle.filterset_graph.specs.declared.package.PackageMetadata.{PackageMetadata}
use Rattle.filterset_grammar.specs.Tree.{Leaf, Tree, Matching, Default}
use Rattle.filterset_grammar.specs.declared.predicate.Predicate.TheVariants.{Test, Group}
use Rattle.filterset_expression.specs.Expression.{CompiledLeaf, formula, is_of_test, with_default, HoldsOfBinary}
use Rattle.filterset_expression.specs.{Formula.Formula, Formula.replaced, Meaning.tree_formula, Meaning.MeansOfBinary}
use Rattle.filterset_expression.specs.Values.{occurrences, TrueUnder, CanBe}
use Rattle.filterset_expression.specs.declared.{expression.CompiledExpr.CompiledExpr, query.BinaryQuery.BinaryQuery}
use Rattle.filterset_expression.specs.Formula as formulas

-- ---- a tree with the default filter put in
--
-- A `default` predicate of a tree stands for the default filter, which is a compiled expression and no tree. With the
-- default filter in the place of each `default` predicate, then, the tree is a formula over leaves of two kinds:
-- predicates of the tree, and leaves of the default filter.

-- a predicate of the tree, or a leaf of the default filter
pub data EitherLeaf (S : Type 0) : Type 0 where
  OfTree : Leaf S → EitherLeaf S
  OfDefault : CompiledLeaf → EitherLeaf S

-- what replaces a predicate: the default filter for `default`, and each other predicate itself
abbrev pub tree_leaf_with_default : {S : Type 0} → CompiledExpr → Leaf S → Formula (EitherLeaf S)
tree_leaf_with_default default (Default span) = replaced (λ leaf. formulas.Leaf (OfDefault leaf)) (formula default)
tree_leaf_with_default default leaf = formulas.Leaf (OfTree leaf)

-- the tree with the default filter in the place of each `default` predicate
abbrev pub tree_with_default : {S : Type 0} → CompiledExpr → Tree S → Formula (EitherLeaf S)
tree_with_default default e = replaced (tree_leaf_with_default default) (tree_formula e)

-- whether what the leaf says of a test depends on more than the binary: on the test's name, or its group
abbrev pub is_of_test_predicate : {S : Type 0} → Leaf S → Bool
is_of_test_predicate (Matching Test matcher span) = true
is_of_test_predicate (Matching Group matcher span) = true
is_of_test_predicate _ = false

-- the same of a leaf of either kind
abbrev pub is_either_of_test : {S : Type 0} → EitherLeaf S → Bool
is_either_of_test (OfTree leaf) = is_of_test_predicate leaf
is_either_of_test (OfDefault leaf) = is_of_test leaf

-- what a leaf of either kind says of a binary
abbrev pub EitherOfBinary : {S : Type 0} → List PackageMetadata → BinaryQuery → EitherLeaf S → Type 0
EitherOfBinary packages binary (OfTree leaf) = MeansOfBinary packages binary leaf
EitherOfBinary packages binary (OfDefault leaf) = HoldsOfBinary binary leaf

-- ---- what it can be of a binary

-- The tree takes this value for a binary under some list of answers, one for each `test` and `group` predicate, those
-- of the default filter anew at each `default` predicate. Two equal predicates may get two answers.
abbrev pub PossibleOfTree : {S : Type 0} → Tree S → List PackageMetadata → BinaryQuery → CompiledExpr → Bool → Type 0
PossibleOfTree e packages binary default value =
    CanBe is_either_of_test (EitherOfBinary packages binary) (tree_with_default default e) value

-- the tree takes this value for the binary and no other, whatever the answers are
abbrev pub IsDefiniteTree : {S : Type 0} → Tree S → List PackageMetadata → BinaryQuery → CompiledExpr → Bool → Type 0
IsDefiniteTree e packages binary default value =
    (other : Bool) → PossibleOfTree e packages binary default other ↔ (other ≡ value)

-- it takes both values
abbrev pub IsUndecidedTree : {S : Type 0} → Tree S → List PackageMetadata → BinaryQuery → CompiledExpr → Type 0
IsUndecidedTree e packages binary default =
    PossibleOfTree e packages binary default true × PossibleOfTree e packages binary default false

-- The expression has as many leaves to be answered as the tree, and is true under the same answers, for every default
-- filter. So it takes the same values.
pub record TellsTheSame (packages : List PackageMetadata) (e : Tree SourceSpan) (compiled : CompiledExpr) : Type 0 where
  pub counted : (default : CompiledExpr) → occurrences is_of_test (with_default default compiled)
      ≡ occurrences is_either_of_test (tree_with_default default e)
  pub alike : (binary : BinaryQuery) (default : CompiledExpr) (answers : List Bool)
      → TrueUnder is_of_test (HoldsOfBinary binary) (with_default default compiled) answers
      ↔ TrueUnder is_either_of_test (EitherOfBinary packages binary) (tree_with_default default e) answers
