-- What a search over the text of all names finds.
use Rattle.std.specs.Prelude.{◌≡◌, ◌↔◌, ◌<◌, ◌≤◌, ◌+◌, ℕ, IsTrue, List, length}
use Rattle.std.specs.{Borrow.Bor, Str.Iter.HasSubslice}
use Rattle.filterset_graph.specs.declared.binary.TestCaseName.{TestCaseName}
use Rattle.filterset_record.specs.{Columns.names_of, Columns.IsAt, Joined.offset}
use Rattle.filterset_record.specs.declared.{hits.Hit.Hit, hits.Place.Place, names.Names.Names}

-- the place is where a name begins, or the last one ends
abbrev pub IsPlace : Names → Place → Type 0
IsPlace names place = (place.position ≤ length (names_of names)) × (place.start ≡ offset (names_of names) place.position)

-- no name from a position on and before another contains the needle
abbrev pub NoneHas : List ℕ → List (Bor TestCaseName) → ℕ → ℕ → Type 0
NoneHas needle names from to = (position : ℕ) (name : Bor TestCaseName) → from ≤ position → position < to
    → IsAt names position name → ¬ HasSubslice name.now needle

-- the next name, from a position on, that may contain the needle: where it ends, and whether it does
pub record IsNextHit (needle : List ℕ) (names : List (Bor TestCaseName)) (from : ℕ) (hit : Hit) : Type 0 where
  pub later : from ≤ hit.position
  pub within : hit.position < length names
  pub ends : hit.end ≡ offset names (hit.position + 1)
  pub before : NoneHas needle names from hit.position
  pub has : (name : Bor TestCaseName) → IsAt names hit.position name → IsTrue hit.is_within ↔ HasSubslice name.now needle
