-- The index of a graph.
use Rattle.std.specs.Prelude.{◌≡◌, ◌↔◌, ◌⊎◌, Contains, List, ℕ, Option, Some, length, map, slice_get, Vec}
use Rattle.std.specs.{Global.Global, BTreeMap.BTreeMap, BTreeMap.get, Cmp.Lexicographic.slice_cmp, Ordering.nat_cmp}
use Rattle.filterset_graph.specs.{declared.package.PackageMetadata.PackageMetadata, Edges.HasEdge}
use Rattle.filterset_graph.specs.Packages.{Text, ids}

-- the position of the package with this id
abbrev pub index_of : BTreeMap Text ℕ → Text → Option ℕ
index_of positions id = get (slice_cmp nat_cmp) positions id

-- each id has its one position, and no other text has any
abbrev pub PositionsAre : BTreeMap Text ℕ → List Text → Type 0
PositionsAre positions names =
    (id : Text) (k : ℕ) → (index_of positions id ≡ Some k) ↔ (slice_get names k ≡ Some id)

-- the row has the position of each link
abbrev pub IsRowOf : BTreeMap Text ℕ → List Text → List ℕ → Type 0
IsRowOf positions links row = map (index_of positions) links ≡ map Some row

-- the rows of the first packages, one each
abbrev pub AreRows : BTreeMap Text ℕ → List PackageMetadata → List (Vec ℕ Global) → Type 0
AreRows positions packages links = (k : ℕ) (p : PackageMetadata) (row : Vec ℕ Global) →
    slice_get packages k ≡ Some p → slice_get links k ≡ Some row → IsRowOf positions p.links.items row.items

-- the edges the other way round
abbrev pub IsReversed : List (Vec ℕ Global) → List (Vec ℕ Global) → Type 0
IsReversed links back = (a b : ℕ) → HasEdge back b a ↔ HasEdge links a b

-- the position from stands in the rows of these positions too, and nothing else changed
abbrev pub AddsEdges : List (Vec ℕ Global) → List ℕ → ℕ → List (Vec ℕ Global) → Type 0
AddsEdges old positions from new =
    (a b : ℕ) → HasEdge new b a ↔ (HasEdge old b a ⊎ ((a ≡ from) × Contains positions b))

-- the positions of the ids, the positions that each package is linked to, and those that are linked to it
pub record IsIndexed (packages : List PackageMetadata) (positions : BTreeMap Text ℕ) (links back : List (Vec ℕ Global))
    : Type 0 where
  pub placed : PositionsAre positions (ids packages)
  pub size : length links ≡ length packages
  pub rows : AreRows positions packages links
  pub back_size : length back ≡ length packages
  pub back_edges : IsReversed links back
