-- What predicates match in a workspace.
use Rattle.std.specs.Prelude.{◌≡◌, ◌↔◌, List, Option, Some, None, length, map, string_bytes, take}
use Rattle.filterset_expression.specs.Meaning.{IsDependency, IsDependent, IsPackage, MeansOfBinary}
use Rattle.filterset_expression.specs.declared.query.BinaryQuery.{BinaryQuery}
use Rattle.filterset_graph.specs.Packages.{Text}
use Rattle.filterset_graph.specs.declared.package.{BuildPlatform.BuildPlatform, PackageMetadata.PackageMetadata}
use Rattle.filterset_grammar.specs.Tree as tree
use Rattle.filterset_grammar.specs.Tree.{Leaf, Matching, Platform, Default}
use Rattle.filterset_grammar.specs.declared.predicate.Predicate.TheVariants.{Package, Deps, Rdeps, Kind, Binary, BinaryId, Test}
use Rattle.filterset_matchers.specs.Matcher.{Matcher, MatchesName}
use Rattle.filterset_sources.specs.declared.list.Suite.{Suite}
use Rattle.filterset_offers.specs.{Named.names_in, Sieves.Selects, Sieves.SelectsAs, Workspaces.WorkspaceRow}
use Rattle.filterset_offers.specs.declared.{matching.Compared.Compared, matched.Matched.Matched}
use Rattle.filterset_offers.specs.declared.matched.Matched.TheVariants.{Packages, Binaries, Tests}
use Rattle.filterset_offers.specs.declared.{matched.Shortlist.Shortlist, packages.Reach.Reach}
use Rattle.filterset_offers.specs.declared.packages.Reach.TheVariants.{Alone, Dependencies, Dependents}
use Rattle.filterset_offers.specs.declared.matching.Compared.TheVariants as compared
use Rattle.filterset_offers.specs.declared.named.Named.TheVariants as named

-- the first ten of these names, and how many there are
abbrev pub IsShortlist : List Text → Shortlist → Type 0
IsShortlist names short = (map (λ n. n.now) short.names.items ≡ take 10 names) × (short.count ≡ length names)

-- the names of exactly those elements of a list for which `In` holds
abbrev pub Shortlists : {A : Type 0} → (A → Type 0) → (A → Text) → List A → Shortlist → Type 0
Shortlists In name xs short = (names : List Text) × SelectsAs In name xs names × IsShortlist names short

-- ---- packages

-- the id is of a package of the workspace that has such a name, or that such a package depends on, or that depends on one
abbrev pub PicksId : List PackageMetadata → Reach → Matcher → Text → Type 0
PicksId packages Alone matcher id = IsPackage packages matcher id
PicksId packages Dependencies matcher id = IsDependency packages matcher id
PicksId packages Dependents matcher id = IsDependent packages matcher id

abbrev pub PicksPackage : List PackageMetadata → Reach → Matcher → PackageMetadata → Type 0
PicksPackage packages reach matcher p = PicksId packages reach matcher p.id

-- ---- test binaries

-- what is compared of a test binary
abbrev pub compared_text : Compared → Suite → Text
compared_text compared.Kind suite = suite.kind
compared_text compared.Name suite = string_bytes suite.binary_name
compared_text compared.Id suite = suite.binary_id

abbrev pub PicksSuite : Compared → Matcher → Suite → Type 0
PicksSuite what matcher suite = MatchesName matcher (compared_text what suite)

abbrev pub IsBuiltFor : BuildPlatform → Suite → Type 0
IsBuiltFor platform suite = suite.platform ≡ platform

-- ---- predicates

abbrev pub package_name : PackageMetadata → Text
package_name p = string_bytes p.name

abbrev pub binary_id : Suite → Text
binary_id suite = suite.binary_id

abbrev pub MatchesPackages : WorkspaceRow → Reach → Matcher → Option Matched → Type 0
MatchesPackages w reach matcher (Some (Packages short)) =
    Shortlists (PicksPackage w.packages reach matcher) package_name w.packages short
MatchesPackages w reach matcher _ = ⊥

abbrev pub MatchesSuites : WorkspaceRow → (Suite → Type 0) → Option Matched → Type 0
MatchesSuites w In (Some (Binaries short)) = Shortlists In binary_id w.suites short
MatchesSuites w In _ = ⊥

abbrev pub MatchesTests : WorkspaceRow → Matcher → Option Matched → Type 0
MatchesTests w matcher (Some (Tests short)) =
    (found : List Text) × Selects (MatchesName matcher) (names_in w named.Test) found × IsShortlist found short
MatchesTests w matcher _ = ⊥

-- What a predicate matches: the packages that it picks the tests of, the test binaries that it picks the tests of, or the tests of
-- these names. Of groups and of the default filter the workspace says nothing.
abbrev pub MatchesLeaf : {S : Type 0} → WorkspaceRow → Leaf S → Option Matched → Type 0
MatchesLeaf w (Matching Package matcher span) found = MatchesPackages w Alone matcher found
MatchesLeaf w (Matching Deps matcher span) found = MatchesPackages w Dependencies matcher found
MatchesLeaf w (Matching Rdeps matcher span) found = MatchesPackages w Dependents matcher found
MatchesLeaf w (Matching Kind matcher span) found = MatchesSuites w (PicksSuite compared.Kind matcher) found
MatchesLeaf w (Matching Binary matcher span) found = MatchesSuites w (PicksSuite compared.Name matcher) found
MatchesLeaf w (Matching BinaryId matcher span) found = MatchesSuites w (PicksSuite compared.Id matcher) found
MatchesLeaf w (Platform platform span) found = MatchesSuites w (IsBuiltFor platform) found
MatchesLeaf w (Matching Test matcher span) found = MatchesTests w matcher found
MatchesLeaf w leaf found = found ≡ None

-- ---- what filtersets mean

-- the question about the binary of a suite
abbrev pub IsQueryOf : Suite → BinaryQuery → Type 0
IsQueryOf suite query =
    (query.package_id.now ≡ suite.package_id) × (query.binary_id.now ≡ suite.binary_id)
    × (query.binary_name.now ≡ string_bytes suite.binary_name) × (query.kind.now ≡ suite.kind)
    × (query.platform ≡ suite.platform)

-- what is said here of the test binaries that a predicate matches
abbrev pub SaysOfSuite : {S : Type 0} → List PackageMetadata → Leaf S → Suite → Type 0
SaysOfSuite packages (Matching Package matcher span) suite = IsPackage packages matcher suite.package_id
SaysOfSuite packages (Matching Deps matcher span) suite = IsDependency packages matcher suite.package_id
SaysOfSuite packages (Matching Rdeps matcher span) suite = IsDependent packages matcher suite.package_id
SaysOfSuite packages (Matching Kind matcher span) suite = PicksSuite compared.Kind matcher suite
SaysOfSuite packages (Matching Binary matcher span) suite = PicksSuite compared.Name matcher suite
SaysOfSuite packages (Matching BinaryId matcher span) suite = PicksSuite compared.Id matcher suite
SaysOfSuite packages (Platform platform span) suite = IsBuiltFor platform suite
SaysOfSuite packages tree.All suite = Unit {0}
SaysOfSuite packages leaf suite = ⊥

-- it is what the predicate means of the binary
abbrev pub MeansTheSame : {S : Type 0} → List PackageMetadata → Leaf S → Type 0
MeansTheSame packages leaf = (suite : Suite) (query : BinaryQuery) → IsQueryOf suite query
    → SaysOfSuite packages leaf suite ↔ MeansOfBinary packages query leaf
