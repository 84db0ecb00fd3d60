-- Packages among which are all whose names a matcher matches.
use Rattle.std.specs.Prelude.{◌↔◌, ℕ, Contains, IsUtf8, List}
use Rattle.std.specs.{Borrow.Bor, Str.Iter.HasSubslice}
use Rattle.filterset_graph.specs.declared.package.PackageMetadata.{PackageMetadata}
use Rattle.filterset_matchers.specs.{Matcher.Matcher, Matcher.MatchesName, Pattern.HasOneOf}
use Rattle.nextest_filtering.specs.Joined.{name_of}

-- these are those of the packages whose names contain the text
abbrev pub AreContaining : List (Bor PackageMetadata) → List ℕ → List (Bor PackageMetadata) → Type 0
AreContaining packages text found =
    (p : Bor PackageMetadata) → Contains found p ↔ (Contains packages p × HasSubslice (name_of p) text)

-- each name that the matcher matches contains one of the texts
abbrev pub OneStandsInNames : Matcher → List (List ℕ) → Type 0
OneStandsInNames matcher texts = (name : List ℕ) → IsUtf8 name → MatchesName matcher name → HasOneOf texts name

-- these are some of the packages, and among them all whose names the matcher matches
pub record AreCandidates (packages : List (Bor PackageMetadata)) (matcher : Matcher) (found : List (Bor PackageMetadata))
    : Type 0 where
  pub some : (p : Bor PackageMetadata) → Contains found p → Contains packages p
  pub all : (p : Bor PackageMetadata) → Contains packages p → MatchesName matcher (name_of p) → Contains found p
