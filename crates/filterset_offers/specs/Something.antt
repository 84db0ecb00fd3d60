-- Whether predicates match something in a workspace.
use Rattle.std.specs.Prelude.{◌↔◌, ◌<◌, ◌++◌, ◌==◌, ◌∷◌, [], Any, Bool, IsTrue, List, None, Option, Some, string_bytes}
use Rattle.std.specs.List.{flat_map, list_any}
use Rattle.filterset_graph.specs.{Packages.Text, declared.package.PackageMetadata.PackageMetadata}
use Rattle.filterset_grammar.specs.Tree.{Leaf, Matching, Platform}
use Rattle.filterset_grammar.specs.declared.predicate.Predicate.TheVariants.{Package, Deps, Rdeps, Kind, Binary, BinaryId, Test}
use Rattle.filterset_matchers.specs.Matcher.{Matcher, MatchesName}
use Rattle.filterset_offers.specs.Matched.{IsBuiltFor, MatchesLeaf, PicksPackage, PicksSuite}
use Rattle.filterset_offers.specs.{Named.names_in, Workspaces.WorkspaceRow, declared.matched.Matched.Matched}
use Rattle.filterset_offers.specs.declared.matched.Matched.TheVariants.{Packages, Binaries, Tests}
use Rattle.filterset_offers.specs.declared.packages.Reach.TheVariants.{Alone, Dependencies, Dependents}
use Rattle.filterset_offers.specs.declared.matching.Compared.TheVariants as compared
use Rattle.filterset_offers.specs.declared.named.Named.TheVariants as named

-- a package of the workspace whose name the matcher matches
abbrev pub IsMemberNamed : Matcher → PackageMetadata → Type 0
IsMemberNamed matcher p = IsTrue p.in_workspace × MatchesName matcher (string_bytes p.name)

-- the names of the tests
abbrev pub tests_of : WorkspaceRow → List Text
tests_of w = names_in w named.Test

-- The workspace has a package, a test binary or a test that the predicate picks by. Of groups and of the default filter the
-- workspace says nothing, and predicates without an argument need none.
abbrev pub MatchesSomething : {S : Type 0} → WorkspaceRow → Leaf S → Type 0
MatchesSomething w (Matching Package matcher span) = Any (PicksPackage w.packages Alone matcher) w.packages
MatchesSomething w (Matching Deps matcher span) = Any (PicksPackage w.packages Dependencies matcher) w.packages
MatchesSomething w (Matching Rdeps matcher span) = Any (PicksPackage w.packages Dependents matcher) w.packages
MatchesSomething w (Matching Kind matcher span) = Any (PicksSuite compared.Kind matcher) w.suites
MatchesSomething w (Matching Binary matcher span) = Any (PicksSuite compared.Name matcher) w.suites
MatchesSomething w (Matching BinaryId matcher span) = Any (PicksSuite compared.Id matcher) w.suites
MatchesSomething w (Platform platform span) = Any (IsBuiltFor platform) w.suites
MatchesSomething w (Matching Test matcher span) = Any (MatchesName matcher) (tests_of w)
MatchesSomething w leaf = Unit {0}

-- something was counted, or nothing was asked for
abbrev pub CountsSome : Option Matched → Type 0
CountsSome (Some (Packages short)) = 0 < short.count
CountsSome (Some (Binaries short)) = 0 < short.count
CountsSome (Some (Tests short)) = 0 < short.count
CountsSome None = Unit {0}

-- if it is counted what the predicate matches, there is some of it exactly if the predicate matches something
abbrev pub CountsTheSame : {S : Type 0} → WorkspaceRow → Leaf S → Type 0
CountsTheSame w leaf = (found : Option Matched) → MatchesLeaf w leaf found → MatchesSomething w leaf ↔ CountsSome found

abbrev pub has_line_break : Text → Bool
has_line_break text = list_any (λ b. b == 10) text

-- texts, each with a line break after it
abbrev pub lines_of : List Text → Text
lines_of texts = flat_map (λ text. text ++ 10 ∷ []) texts
