-- What a search over the text of all names finds.
use Rattle.std.specs.Prelude.{◌≡◌, ◌↔◌, ◌<◌, ◌≤◌, ℕ, IsTrue, List, length, slice_index_or}
use Rattle.std.specs.{Borrow.Bor, Str.Iter.HasSubslice}
use Rattle.filterset_graph.specs.declared.package.PackageMetadata.{PackageMetadata}
use Rattle.nextest_filtering.specs.{Joined.name_of, declared.compile.members.Hit.Hit}

-- the package at a position
abbrev pub IsAt : List (Bor PackageMetadata) → ℕ → Bor PackageMetadata → Type 0
IsAt packages position p = (position < length packages) × (slice_index_or packages position p ≡ p)

-- no name from a position on and before another contains the needle
abbrev pub NoneHas : List ℕ → List (Bor PackageMetadata) → ℕ → ℕ → Type 0
NoneHas needle packages from to = (position : ℕ) (p : Bor PackageMetadata) → from ≤ position → position < to
    → IsAt packages position p → ¬ HasSubslice (name_of p) needle

-- the next name, from a position on, that may contain the needle, and whether it does
pub record IsNextHit (needle : List ℕ) (packages : List (Bor PackageMetadata)) (from : ℕ) (hit : Hit) : Type 0 where
  pub later : from ≤ hit.position
  pub within : hit.position < length packages
  pub before : NoneHas needle packages from hit.position
  pub has : (p : Bor PackageMetadata) → IsAt packages hit.position p → IsTrue hit.is_within ↔ HasSubslice (name_of p) needle
