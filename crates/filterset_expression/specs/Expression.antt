-- Compiled expressions as formulas, without the memory that they lie in, and their meaning.
use Rattle.std.specs.Prelude as prelude
use Rattle.std.specs.Prelude.{◌≡◌, ◌↔◌, ℕ, Bool, true, false, List, Contains}
use Rattle.std.specs.List.{list_any}
use Rattle.filterset_faults.specs.declared.span.SourceSpan.{SourceSpan}
use Rattle.filterset_graph.specs.declared.package.BuildPlatform.{BuildPlatform}
use Rattle.filterset_expression.specs.Connectives.{Conjunction, Disjunction, ExclusiveDisjunction}
use Rattle.filterset_expression.specs.Formula.{Formula, Leaf, Negation, Compound, leaves, replaced, TrueWhere}
use Rattle.filterset_expression.specs.{Values.CanBe, declared.expression.CompiledExpr.CompiledExpr}
use Rattle.filterset_expression.specs.declared.expression.CompiledExpr.TheVariants.{Not', Union', Intersection', SymmetricDifference', Set}
use Rattle.filterset_expression.specs.declared.leaves.FiltersetLeaf.{FiltersetLeaf}
use Rattle.filterset_expression.specs.declared.query.{BinaryQuery.BinaryQuery, TestQuery.TestQuery}
use Rattle.filterset_matchers.specs.{Matcher.Matcher, Matcher.MatchesName, Matchers.matcher_of}
use Rattle.filterset_expression.specs.declared.leaves.FiltersetLeaf.TheVariants as leaf

-- a leaf of a compiled expression; a set of packages is the ids that it holds, in their order
pub data CompiledLeaf : Type 0 where
  Packages : List (List ℕ) → CompiledLeaf
  Kind Binary BinaryId Test Group : Matcher → SourceSpan → CompiledLeaf
  Platform : BuildPlatform → SourceSpan → CompiledLeaf
  Default All None : CompiledLeaf

abbrev pub compiled_leaf : FiltersetLeaf → CompiledLeaf
compiled_leaf (leaf.Packages ids) = Packages ids.keys
compiled_leaf (leaf.Kind m s) = Kind (matcher_of m) s
compiled_leaf (leaf.Platform p s) = Platform p s
compiled_leaf (leaf.Binary m s) = Binary (matcher_of m) s
compiled_leaf (leaf.BinaryId m s) = BinaryId (matcher_of m) s
compiled_leaf (leaf.Test m s) = Test (matcher_of m) s
compiled_leaf (leaf.Group m s) = Group (matcher_of m) s
compiled_leaf leaf.Default = Default
compiled_leaf leaf.All = All
compiled_leaf leaf.None = None

-- the expression as a formula over its leaves
abbrev pub formula : CompiledExpr → Formula CompiledLeaf
formula (Not' p e) = Negation (formula e)
formula (Union' p a q b) = Compound Disjunction (formula a) (formula b)
formula (Intersection' p a q b) = Compound Conjunction (formula a) (formula b)
formula (SymmetricDifference' p a q b) = Compound ExclusiveDisjunction (formula a) (formula b)
formula (Set leaf) = Leaf (compiled_leaf leaf)

-- a leaf, and the default filter in the place of a `default` leaf
abbrev pub leaf_with_default : CompiledExpr → CompiledLeaf → Formula CompiledLeaf
leaf_with_default default Default = formula default
leaf_with_default default leaf = Leaf leaf

-- the expression with the default filter in the place of each `default` leaf
abbrev pub with_default : CompiledExpr → CompiledExpr → Formula CompiledLeaf
with_default default e = replaced (leaf_with_default default) (formula e)

abbrev pub is_default : CompiledLeaf → Bool
is_default Default = true
is_default _ = false

abbrev pub is_group : CompiledLeaf → Bool
is_group (Group matcher span) = true
is_group _ = false

-- whether what the leaf says of a test depends on more than the binary: on the test's name, or its group
abbrev pub is_of_test : CompiledLeaf → Bool
is_of_test (Test matcher span) = true
is_of_test (Group matcher span) = true
is_of_test _ = false

-- whether what the leaf says may depend on more than the binary: on the test, its group, or the default filter
abbrev pub is_runtime_only : CompiledLeaf → Bool
is_runtime_only (Test matcher span) = true
is_runtime_only (Group matcher span) = true
is_runtime_only Default = true
is_runtime_only _ = false

-- the leaf's matcher, if it has one
abbrev pub leaf_matcher : CompiledLeaf → prelude.Option Matcher
leaf_matcher (Kind matcher span) = prelude.Some matcher
leaf_matcher (Binary matcher span) = prelude.Some matcher
leaf_matcher (BinaryId matcher span) = prelude.Some matcher
leaf_matcher (Test matcher span) = prelude.Some matcher
leaf_matcher (Group matcher span) = prelude.Some matcher
leaf_matcher _ = prelude.None

-- whether a leaf of the expression passes the test
abbrev pub has_leaf : (CompiledLeaf → Bool) → CompiledExpr → Bool
has_leaf test e = list_any test (leaves (formula e))

-- what a leaf says of a binary; what it says of a test alone is not said here, nor what the default filter says
abbrev pub HoldsOfBinary : BinaryQuery → CompiledLeaf → Type 0
HoldsOfBinary binary (Packages ids) = Contains ids binary.package_id.now
HoldsOfBinary binary (Kind matcher span) = MatchesName matcher binary.kind.now
HoldsOfBinary binary (Platform platform span) = binary.platform ≡ platform
HoldsOfBinary binary (Binary matcher span) = MatchesName matcher binary.binary_name.now
HoldsOfBinary binary (BinaryId matcher span) = MatchesName matcher binary.binary_id.now
HoldsOfBinary binary All = Unit {0}
HoldsOfBinary binary _ = ⊥

-- what a lookup of groups says: that the matcher matches the group of the test
abbrev pub Lookup : Type 1
Lookup = TestQuery → Matcher → Type 0

-- no test is in a group
abbrev pub no_groups : Lookup
no_groups test matcher = ⊥

-- what a leaf says of a test
abbrev pub HoldsOfTest : TestQuery → Lookup → CompiledLeaf → Type 0
HoldsOfTest test lookup (Test matcher span) = MatchesName matcher test.test_name.now
HoldsOfTest test lookup (Group matcher span) = lookup test matcher
HoldsOfTest test lookup leaf = HoldsOfBinary test.binary_query leaf

-- the expression holds of a test
abbrev pub Holds : CompiledExpr → TestQuery → CompiledExpr → Lookup → Type 0
Holds e test default lookup = TrueWhere (HoldsOfTest test lookup) (with_default default e)

-- The expression takes this value for a binary under some list of answers, one for each `test` and `group` leaf, those
-- of the default filter anew at each `default` leaf. Two equal leaves may get two answers.
abbrev pub Possible : CompiledExpr → BinaryQuery → CompiledExpr → Bool → Type 0
Possible e binary default value = CanBe is_of_test (HoldsOfBinary binary) (with_default default e) value

-- the expression takes this value for the binary and no other, whatever the answers are
abbrev pub IsDefinite : CompiledExpr → BinaryQuery → CompiledExpr → Bool → Type 0
IsDefinite e binary default value = (other : Bool) → Possible e binary default other ↔ (other ≡ value)

-- it takes both values
abbrev pub IsUndecided : CompiledExpr → BinaryQuery → CompiledExpr → Type 0
IsUndecided e binary default = Possible e binary default true × Possible e binary default false
