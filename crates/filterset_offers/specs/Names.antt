-- Which names of a workspace may be offered.
use Rattle.std.specs.Prelude.{◌≡◌, ◌≤◌, ◌<◌, ◌++◌, ◌&&◌, ◌==◌, ℕ, Bool, Contains, IsTrue, List, [], Option, None, Some, length, map, nat_le, not}
use Rattle.std.specs.{List.IsDistinct, List.list_all, List.starts_with, Str.bytes_eq}
use Rattle.filterset_display.specs.Positions.{Text}
use Rattle.filterset_offers.specs.{Named.names_in, Workspaces.WorkspaceRow, declared.named.Named.Named}
use Rattle.filterset_offers.specs.declared.named.Named.TheVariants.{Binary, BinaryId, Package, Test}
use Rattle.filterset_offers.specs.Candidates.{Row, is_name_byte, naming}

-- A name that begins with what is typed, and that is written as it is: it has no byte that may be taken for another part of a
-- filterset or of the file.
abbrev pub may_offer : Text → Text → Bool
may_offer typed name = starts_with (λ a b. a == b) name typed && list_all is_name_byte name && not (length name == 0)

-- at most how many names of a sort are offered
abbrev pub limit : ℕ
limit = 100

-- Some of these names: no other, none twice, and none too many. If there are fewer than the most, none is missing.
pub record IsGathered (names : List Text) (typed : Text) (found : List Text) : Type 0 where
  pub distinct : IsDistinct bytes_eq found
  pub few : length found ≤ limit
  pub sound : (name : Text) → Contains found name → Contains names name × IsTrue (may_offer typed name)
  pub complete : length found < limit → (name : Text) → Contains names name → IsTrue (may_offer typed name) → Contains found name

-- the candidates of the names of what is named so
abbrev pub AreNames : WorkspaceRow → Text → Named → List Row → Type 0
AreNames w typed what rows = (found : List Text) × IsGathered (names_in w what) typed found × (rows ≡ map (naming what) found)

abbrev pub AreNamed : WorkspaceRow → Text → List Row → Type 0
AreNamed w typed rows = (packages : List Row) × (binaries : List Row) × (ids : List Row) × (tests : List Row)
    × AreNames w typed Package packages × AreNames w typed Binary binaries × AreNames w typed BinaryId ids × AreNames w typed Test tests × (rows ≡ packages ++ binaries ++ ids ++ tests)

-- the candidates of the names of the workspace, if there is one
abbrev pub AreKnown : Option WorkspaceRow → Text → List Row → Type 0
AreKnown None typed rows = rows ≡ []
AreKnown (Some w) typed rows = AreNamed w typed rows

-- whether names may be missing among these candidates
abbrev pub may_lack : List Row → Bool
may_lack rows = nat_le limit (length rows)
