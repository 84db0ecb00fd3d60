-- Packages that are named or marked by their positions.
use Rattle.std.specs.Prelude.{◌≡◌, ◌↔◌, ℕ, Bool, List, Some, IsTrue, slice_get, string_bytes}
use Rattle.std.specs.Borrow.{Bor}
use Rattle.filterset_graph.specs.{Walks.IsMarked, declared.package.PackageMetadata.PackageMetadata}
use Rattle.filterset_matchers.specs.Matcher.{Matcher, MatchesName}

-- the package at the position is one of the workspace whose name the matcher matches
abbrev pub IsNamedAt : List PackageMetadata → Matcher → ℕ → Type 0
IsNamedAt packages matcher k =
    (p : PackageMetadata) × (slice_get packages k ≡ Some p) × IsTrue p.in_workspace × MatchesName matcher (string_bytes p.name)

-- exactly the positions of such packages are marked
abbrev pub MarksNamed : List PackageMetadata → Matcher → List Bool → Type 0
MarksNamed packages matcher marks = (k : ℕ) → IsMarked marks k ↔ IsNamedAt packages matcher k

-- at the position stands a package with this id whose name the matcher matches
abbrev pub IsMatchAt : List (Bor PackageMetadata) → Matcher → ℕ → List ℕ → Type 0
IsMatchAt packages matcher k id =
    (p : Bor PackageMetadata) × (slice_get packages k ≡ Some p) × MatchesName matcher (string_bytes p.now.name) × (p.now.id ≡ id)

-- one of these packages has this id, and a name that the matcher matches
abbrev pub HasNamed : List (Bor PackageMetadata) → Matcher → List ℕ → Type 0
HasNamed packages matcher id = (k : ℕ) × IsMatchAt packages matcher k id

-- the position is marked, and its package has this id and is of the workspace
abbrev pub IsMarkedMemberAt : List PackageMetadata → List Bool → ℕ → List ℕ → Type 0
IsMarkedMemberAt packages marks k id =
    (p : PackageMetadata) × (slice_get packages k ≡ Some p) × IsMarked marks k × IsTrue p.in_workspace × (p.id ≡ id)

-- a marked package of the workspace has this id
abbrev pub IsMarkedMember : List PackageMetadata → List Bool → List ℕ → Type 0
IsMarkedMember packages marks id = (k : ℕ) × IsMarkedMemberAt packages marks k id
