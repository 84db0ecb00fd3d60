-- Which predicates match a package, a test binary or a known group, and the faults of those that do not.
use Rattle.std.specs.Prelude.{◌≡◌, ◌⊎◌, ◌++◌, ℕ, List, [], ◌∷◌, All}
use Rattle.filterset_faults.specs.declared.error.ParseSingleError.{ParseSingleError}
use Rattle.filterset_faults.specs.declared.error.ParseSingleError.TheVariants.{NoPackageMatch, NoBinaryNameMatch, NoBinaryIdMatch, NoGroupMatch}
use Rattle.filterset_faults.specs.declared.span.SourceSpan.{SourceSpan}
use Rattle.filterset_graph.specs.Binaries.{IsBinaryName, IsBinaryId}
use Rattle.filterset_graph.specs.declared.package.PackageMetadata.{PackageMetadata}
use Rattle.filterset_matchers.specs.Matcher.{Matcher, MatchesName}
use Rattle.filterset_grammar.specs.Tree.{Leaf, Tree, Matching, leaf_without_span, tree_leaves}
use Rattle.filterset_grammar.specs.declared.predicate.Predicate.TheVariants.{Package, Deps, Rdeps, Binary, BinaryId, Group}
use Rattle.nextest_filtering.specs.{Groups.IsGroupName, declared.compile.context.KnownGroups.KnownGroups}
use Rattle.filterset_expression.specs.Meaning.{IsNamed}

-- the matcher matches one of these texts
abbrev pub MatchesSomeName : Matcher → (List ℕ → Type 0) → Type 0
MatchesSomeName matcher IsOne = (text : List ℕ) × IsOne text × MatchesName matcher text

-- the predicate matches something: one of packages the name of a package of the workspace, `binary` the name of a test
-- binary, `binary_id` the id of one, and `group` the name of a known group; all others need match nothing
abbrev pub MatchesSomething : List PackageMetadata → KnownGroups → Leaf (Unit {0}) → Type 0
MatchesSomething packages groups (Matching Package matcher s) = (p : PackageMetadata) × IsNamed packages matcher p
MatchesSomething packages groups (Matching Deps matcher s) = (p : PackageMetadata) × IsNamed packages matcher p
MatchesSomething packages groups (Matching Rdeps matcher s) = (p : PackageMetadata) × IsNamed packages matcher p
MatchesSomething packages groups (Matching Binary matcher s) = MatchesSomeName matcher (IsBinaryName packages)
MatchesSomething packages groups (Matching BinaryId matcher s) = MatchesSomeName matcher (IsBinaryId packages)
MatchesSomething packages groups (Matching Group matcher s) = MatchesSomeName matcher (IsGroupName groups)
MatchesSomething packages groups _ = Unit {0}

-- the same of a predicate with its span
abbrev pub IsChecked : List PackageMetadata → KnownGroups → Leaf SourceSpan → Type 0
IsChecked packages groups leaf = MatchesSomething packages groups (leaf_without_span leaf)

-- each predicate of the tree matches something
abbrev pub AllChecked : List PackageMetadata → KnownGroups → Tree SourceSpan → Type 0
AllChecked packages groups e = All (IsChecked packages groups) (tree_leaves e)

-- the fault says that the predicate matches nothing
abbrev pub SaysUnmatched : Leaf SourceSpan → ParseSingleError → Type 0
SaysUnmatched (Matching Package matcher span) fault = fault ≡ NoPackageMatch span
SaysUnmatched (Matching Deps matcher span) fault = fault ≡ NoPackageMatch span
SaysUnmatched (Matching Rdeps matcher span) fault = fault ≡ NoPackageMatch span
SaysUnmatched (Matching Binary matcher span) fault = fault ≡ NoBinaryNameMatch span
SaysUnmatched (Matching BinaryId matcher span) fault = fault ≡ NoBinaryIdMatch span
SaysUnmatched (Matching Group matcher span) fault = fault ≡ NoGroupMatch span
SaysUnmatched _ fault = ⊥

-- these are the faults of these predicates, one for each that matches nothing, in their order
abbrev pub AreUnmatched :
    List PackageMetadata → KnownGroups → List (Leaf SourceSpan) → List ParseSingleError → Type 0
AreUnmatched packages groups [] faults = faults ≡ []
AreUnmatched packages groups (leaf ∷ leaves) faults =
    (IsChecked packages groups leaf × AreUnmatched packages groups leaves faults)
    ⊎ ((fault : ParseSingleError) × (others : List ParseSingleError) × (¬ IsChecked packages groups leaf)
    × (faults ≡ fault ∷ others) × SaysUnmatched leaf fault × AreUnmatched packages groups leaves others)

-- the faults of these predicates were added
abbrev pub AddsUnmatched :
    List PackageMetadata → KnownGroups → List (Leaf SourceSpan) → List ParseSingleError → List ParseSingleError → Type 0
AddsUnmatched packages groups leaves old new =
    (added : List ParseSingleError) × (new ≡ old ++ added) × AreUnmatched packages groups leaves added

-- the fault was added, unless this holds
abbrev pub AddsUnless : Type 0 → ParseSingleError → List ParseSingleError → List ParseSingleError → Type 0
AddsUnless Holds fault old new = (Holds × (new ≡ old)) ⊎ (¬ Holds × (new ≡ old ++ fault ∷ []))
