-- Whether overrides apply to tests.
use Rattle.std.specs.Prelude.{◌≡◌, ℕ, Bool, true, false, List, Option, Some, None, MatchOption, map, string_bytes}
use Rattle.std.specs.{List.flat_map, List.list_any, Str.bytes_eq}
use Rattle.std.specs.declared.{alloc.Global.Global, string.String.String}
use Rattle.filterset_faults.specs.declared.span.SourceSpan.{SourceSpan}
use Rattle.filterset_graph.specs.declared.package.BuildPlatform.{BuildPlatform, TheVariants.Target, TheVariants.Host}
use Rattle.filterset_graph.specs.declared.package.PackageMetadata.{PackageMetadata}
use Rattle.filterset_grammar.specs.Tree.{Tree}
use Rattle.filterset_expression.specs.{Expression.no_groups, Meaning.IsCompiled, Meaning.Meaning}
use Rattle.filterset_expression.specs.declared.expression.CompiledExpr.{CompiledExpr}
use Rattle.filterset_expression.specs.declared.query.{BinaryQuery.BinaryQuery, TestQuery.TestQuery}
use Rattle.filterset_overrides.specs.declared.{asked.ListedBinary.ListedBinary, applying.Application.Application}
use Rattle.filterset_overrides.specs.declared.applying.Application.TheVariants.{Applies, NotPicked, OtherPlatform, UnknownPlatform}
use Rattle.filterset_overrides.specs.declared.asked.AskedOverride.{AskedOverride}

-- a text, by its bytes
abbrev pub Text : Type 0
Text = List ℕ

-- a test: its binary and its name
abbrev pub Test : Type 0
Test = BinaryQuery × Text

abbrev pub tests_of_one : ListedBinary → List Test
tests_of_one binary = map (λ t. (binary.query, t.now)) binary.tests.now

abbrev pub tests_of : List ListedBinary → List Test
tests_of binaries = flat_map tests_of_one binaries

-- whether the key is among those that are set
abbrev pub sets : List (String Global) → Text → Bool
sets settings key = list_any (λ s. bytes_eq (string_bytes s) key) settings

-- whether the override's platforms apply to tests built for this one
abbrev pub platforms_of : AskedOverride → BuildPlatform → Option Bool
platforms_of o Target = o.for_target
platforms_of o Host = o.for_host

-- the override's filter, if it has one, is compiled from a tree
abbrev pub IsCompiledOf : List PackageMetadata → AskedOverride → Type 0
IsCompiledOf packages o =
    MatchOption o.filter (Unit {0}) (λ expr. (tree : Tree SourceSpan) × IsCompiled packages tree expr.now)

-- the override's filter, if it has one, is compiled from a tree that picks the test
abbrev pub FilterPicks : List PackageMetadata → CompiledExpr → AskedOverride → TestQuery → Type 0
FilterPicks packages default o test = MatchOption o.filter (Unit {0})
    (λ expr. (tree : Tree SourceSpan) × IsCompiled packages tree expr.now × Meaning tree packages test default no_groups)

-- how an override applies, by whether its filter picks the test, and whether its platforms apply
abbrev pub HasApplication : Type 0 → Option Bool → Application → Type 0
HasApplication Picks platforms NotPicked = ¬ Picks
HasApplication Picks platforms Applies = Picks × (platforms ≡ Some true)
HasApplication Picks platforms OtherPlatform = Picks × (platforms ≡ Some false)
HasApplication Picks platforms UnknownPlatform = Picks × (platforms ≡ None)

-- so the override applies to the test
abbrev pub AppliesAs : List PackageMetadata → CompiledExpr → Test → AskedOverride → Application → Type 0
AppliesAs packages default test o application =
    (query : TestQuery) × (query.binary_query ≡ test.0) × (query.test_name.now ≡ test.1)
    × HasApplication (FilterPicks packages default o query) (platforms_of o query.binary_query.platform) application

-- whether an override that applies so does apply; none is unknown
abbrev pub verdict : Application → Option Bool
verdict Applies = Some true
verdict NotPicked = Some false
verdict OtherPlatform = Some false
verdict UnknownPlatform = None

-- whether the override applies to the test
abbrev pub DoesApply : List PackageMetadata → CompiledExpr → Test → AskedOverride → Option Bool → Type 0
DoesApply packages default test o answer =
    (application : Application) × AppliesAs packages default test o application × (answer ≡ verdict application)
