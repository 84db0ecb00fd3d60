-- What an error says about the ids, about the links, and about the links of one package. Only proofs cite this file.
use Rattle.std.specs.Prelude.{◌≡◌, List, ℕ, Some, None, take, slice_get}
use Rattle.std.specs.BTreeMap.{BTreeMap}
use Rattle.filterset_graph.specs.declared.package.PackageMetadata.{PackageMetadata}
use Rattle.filterset_graph.specs.declared.refusal.GraphRefusal.{GraphRefusal}
use Rattle.filterset_graph.specs.declared.refusal.GraphRefusal.TheVariants.{RepeatedId, UnknownLink, OutOfMemory}
use Rattle.filterset_graph.specs.Index.{index_of, IsRowOf}
use Rattle.filterset_graph.specs.Packages.{Text, IsFirstRepeat, IsFirstUnknownLink}

-- the refusal is true of the ids
abbrev pub IsRefusalOfIds : List Text → GraphRefusal → Type 0
IsRefusalOfIds names (RepeatedId at) = IsFirstRepeat names at
IsRefusalOfIds names (UnknownLink owner link) = ⊥
IsRefusalOfIds names (OutOfMemory error) = Unit {0}

-- the refusal is true of the links
abbrev pub IsRefusalOfLinks : List PackageMetadata → GraphRefusal → Type 0
IsRefusalOfLinks packages (RepeatedId at) = ⊥
IsRefusalOfLinks packages (UnknownLink owner link) = IsFirstUnknownLink packages owner link
IsRefusalOfLinks packages (OutOfMemory error) = Unit {0}

-- the links before this one have positions, and this one has none
abbrev pub IsFirstWithout : BTreeMap Text ℕ → List Text → ℕ → Type 0
IsFirstWithout positions links link =
    ((row : List ℕ) × IsRowOf positions (take link links) row)
    × ((id : Text) × (slice_get links link ≡ Some id) × (index_of positions id ≡ None))

-- the refusal is true of the links of the package at this position
abbrev pub IsRefusalOfRow : BTreeMap Text ℕ → List Text → ℕ → GraphRefusal → Type 0
IsRefusalOfRow positions links at (RepeatedId k) = ⊥
IsRefusalOfRow positions links at (UnknownLink owner link) = (owner ≡ at) × IsFirstWithout positions links link
IsRefusalOfRow positions links at (OutOfMemory error) = Unit {0}
