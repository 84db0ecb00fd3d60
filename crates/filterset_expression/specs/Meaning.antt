-- What a filterset's tree means, and which compiled expressions mean the same.
use Rattle.std.specs.Prelude.{◌≡◌, ◌↔◌, ℕ, Bool, true, false, List, Contains, IsTrue, string_bytes}
use Rattle.std.specs.List.{list_any}
use Rattle.filterset_faults.specs.declared.span.SourceSpan.{SourceSpan}
use Rattle.filterset_graph.specs.{Packages.Path, declared.package.PackageMetadata.PackageMetadata}
use Rattle.filterset_expression.specs.Connectives.{Conjunction, Disjunction, ExclusiveDisjunction}
use Rattle.filterset_expression.specs.Expression.{CompiledLeaf, Lookup, Holds, HoldsOfTest, formula}
use Rattle.filterset_expression.specs.Formula.{Formula, Negation, Compound, TrueWhere, SameShape}
use Rattle.filterset_expression.specs.declared.expression.CompiledExpr.{CompiledExpr}
use Rattle.filterset_expression.specs.declared.query.{BinaryQuery.BinaryQuery, TestQuery.TestQuery}
use Rattle.filterset_expression.specs.Expression as compiled
use Rattle.filterset_expression.specs.Formula as formulas
use Rattle.filterset_matchers.specs.Matcher.{Matcher, MatchesName}
use Rattle.filterset_grammar.specs.Tree.{Leaf, Tree, Matching, Platform, Default, All, None, Not, Union, Join, Parens, Set, tree_leaves}
use Rattle.filterset_grammar.specs.declared.predicate.Predicate.TheVariants.{Package, Deps, Rdeps, Kind, Binary, BinaryId, Test, Group}
use Rattle.filterset_grammar.specs.declared.operators.Joiner.{Joiner}
use Rattle.filterset_grammar.specs.declared.operators.Joiner.TheVariants.{Both, Without, ExactlyOne}

-- what an operator of the level of `and` makes of two formulas: `a - b` is a and not b
abbrev pub joined : {A : Type 0} → Joiner → Formula A → Formula A → Formula A
joined (Both op) f g = Compound Conjunction f g
joined (Without op) f g = Compound Conjunction f (Negation g)
joined (ExactlyOne op) f g = Compound ExclusiveDisjunction f g

-- the tree as a formula over its leaves; parentheses mean what they hold
abbrev pub tree_formula : {S : Type 0} → Tree S → Formula (Leaf S)
tree_formula (Not op e) = Negation (tree_formula e)
tree_formula (Union op a b) = Compound Disjunction (tree_formula a) (tree_formula b)
tree_formula (Join op a b) = joined op (tree_formula a) (tree_formula b)
tree_formula (Parens e) = tree_formula e
tree_formula (Set leaf) = formulas.Leaf leaf

-- whether a leaf of the tree passes the test
abbrev pub has_tree_leaf : {S : Type 0} → (Leaf S → Bool) → Tree S → Bool
has_tree_leaf test e = list_any test (tree_leaves e)

abbrev pub is_default_predicate : {S : Type 0} → Leaf S → Bool
is_default_predicate (Default span) = true
is_default_predicate _ = false

abbrev pub is_group_predicate : {S : Type 0} → Leaf S → Bool
is_group_predicate (Matching Group matcher span) = true
is_group_predicate _ = false

-- a package of the workspace
abbrev pub IsMember : List PackageMetadata → PackageMetadata → Type 0
IsMember packages p = Contains packages p × IsTrue p.in_workspace

-- a package of the workspace whose name the matcher matches
abbrev pub IsNamed : List PackageMetadata → Matcher → PackageMetadata → Type 0
IsNamed packages matcher p = IsMember packages p × MatchesName matcher (string_bytes p.name)

-- a package of the workspace with this id has a name that the matcher matches
abbrev pub IsPackage : List PackageMetadata → Matcher → List ℕ → Type 0
IsPackage packages matcher id = (p : PackageMetadata) × IsNamed packages matcher p × (p.id ≡ id)

-- a package of the workspace has this id, and a path leads to it from one whose name the matcher matches
abbrev pub IsDependency : List PackageMetadata → Matcher → List ℕ → Type 0
IsDependency packages matcher id =
    (p : PackageMetadata) × (from : PackageMetadata) × IsMember packages p × (p.id ≡ id)
    × IsNamed packages matcher from × Path packages from.id id

-- a package of the workspace has this id, and a path leads from it to one whose name the matcher matches
abbrev pub IsDependent : List PackageMetadata → Matcher → List ℕ → Type 0
IsDependent packages matcher id =
    (p : PackageMetadata) × (to : PackageMetadata) × IsMember packages p × (p.id ≡ id)
    × IsNamed packages matcher to × Path packages id to.id

-- what a leaf says of a binary; what it says of a test alone is not said here, nor what the default filter says
abbrev pub MeansOfBinary : {S : Type 0} → List PackageMetadata → BinaryQuery → Leaf S → Type 0
MeansOfBinary packages binary (Matching Package matcher span) = IsPackage packages matcher binary.package_id.now
MeansOfBinary packages binary (Matching Deps matcher span) = IsDependency packages matcher binary.package_id.now
MeansOfBinary packages binary (Matching Rdeps matcher span) = IsDependent packages matcher binary.package_id.now
MeansOfBinary packages binary (Matching Kind matcher span) = MatchesName matcher binary.kind.now
MeansOfBinary packages binary (Matching Binary matcher span) = MatchesName matcher binary.binary_name.now
MeansOfBinary packages binary (Matching BinaryId matcher span) = MatchesName matcher binary.binary_id.now
MeansOfBinary packages binary (Platform platform span) = binary.platform ≡ platform
MeansOfBinary packages binary All = Unit {0}
MeansOfBinary packages binary _ = ⊥

-- what a leaf says of a test: `test` and `group` speak of the test itself, `default` says what the default filter says,
-- and every other leaf says what it says of the test's binary
abbrev pub MeansOfTest : {S : Type 0} → List PackageMetadata → TestQuery → CompiledExpr → Lookup → Leaf S → Type 0
MeansOfTest packages test default lookup (Matching Test matcher span) = MatchesName matcher test.test_name.now
MeansOfTest packages test default lookup (Matching Group matcher span) = lookup test matcher
MeansOfTest packages test default lookup (Default span) = TrueWhere (HoldsOfTest test lookup) (formula default)
MeansOfTest packages test default lookup leaf = MeansOfBinary packages test.binary_query leaf

-- what a tree says of a test, for this list of packages, this default filter and this lookup of groups
abbrev pub Meaning : {S : Type 0} → Tree S → List PackageMetadata → TestQuery → CompiledExpr → Lookup → Type 0
Meaning e packages test default lookup = TrueWhere (MeansOfTest packages test default lookup) (tree_formula e)

-- a leaf of a tree and what it is compiled to: a predicate of packages to the set of their ids, and every other leaf
-- to one with the same matcher and span
abbrev pub IsCompiledLeaf : List PackageMetadata → Leaf SourceSpan → CompiledLeaf → Type 0
IsCompiledLeaf packages (Matching Package matcher span) (compiled.Packages ids) =
    (id : List ℕ) → Contains ids id ↔ IsPackage packages matcher id
IsCompiledLeaf packages (Matching Deps matcher span) (compiled.Packages ids) =
    (id : List ℕ) → Contains ids id ↔ IsDependency packages matcher id
IsCompiledLeaf packages (Matching Rdeps matcher span) (compiled.Packages ids) =
    (id : List ℕ) → Contains ids id ↔ IsDependent packages matcher id
IsCompiledLeaf packages (Matching Kind matcher span) (compiled.Kind m s) = (matcher ≡ m) × (span ≡ s)
IsCompiledLeaf packages (Matching Binary matcher span) (compiled.Binary m s) = (matcher ≡ m) × (span ≡ s)
IsCompiledLeaf packages (Matching BinaryId matcher span) (compiled.BinaryId m s) = (matcher ≡ m) × (span ≡ s)
IsCompiledLeaf packages (Matching Test matcher span) (compiled.Test m s) = (matcher ≡ m) × (span ≡ s)
IsCompiledLeaf packages (Matching Group matcher span) (compiled.Group m s) = (matcher ≡ m) × (span ≡ s)
IsCompiledLeaf packages (Platform platform span) (compiled.Platform p s) = (platform ≡ p) × (span ≡ s)
IsCompiledLeaf packages (Default span) compiled.Default = Unit {0}
IsCompiledLeaf packages All compiled.All = Unit {0}
IsCompiledLeaf packages None compiled.None = Unit {0}
IsCompiledLeaf packages _ _ = ⊥

-- the expression is what the tree is compiled to, for this list of packages
abbrev pub IsCompiled : List PackageMetadata → Tree SourceSpan → CompiledExpr → Type 0
IsCompiled packages e compiled = SameShape (IsCompiledLeaf packages) (tree_formula e) (formula compiled)

-- the expression says of each test what the tree says, for every default filter and every lookup of groups
abbrev pub SaysTheSame : List PackageMetadata → Tree SourceSpan → CompiledExpr → Type 0
SaysTheSame packages e compiled =
    (test : TestQuery) (default : CompiledExpr) (lookup : TestQuery → Matcher → Bool)
    → Holds compiled test default (λ t m. IsTrue (lookup t m))
    ↔ Meaning e packages test default (λ t m. IsTrue (lookup t m))
