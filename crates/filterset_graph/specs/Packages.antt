-- Packages, their links, and paths of links.
use Rattle.std.specs.Prelude.{◌≡◌, ◌<◌, List, ℕ, Some, All, Contains, length, map, slice_get}
use Rattle.filterset_graph.specs.{declared.package.PackageMetadata.PackageMetadata, Walks.Follows}

-- a text, by its bytes
abbrev pub Text : Type 0
Text = List ℕ

-- the ids of the packages, in the order of the packages
abbrev pub ids : List PackageMetadata → List Text
ids packages = map (λ p. p.id) packages

-- some package with the id a has a link to the id b
abbrev pub IsLinked : List PackageMetadata → Text → Text → Type 0
IsLinked packages a b =
    (p : PackageMetadata) × Contains packages p × (p.id ≡ a) × Contains p.links.items b

-- a list of packages from a to b, each linked to the next; one package alone is a path
abbrev pub Path : List PackageMetadata → Text → Text → Type 0
Path packages a b =
    Contains (ids packages) a × ((rest : List Text) × Follows (IsLinked packages) a rest b)

-- the id at this position stands at an earlier position too
abbrev pub RepeatsAt : List Text → ℕ → Type 0
RepeatsAt names at =
    (k : ℕ) × (k < at) × (at < length names) × (slice_get names k ≡ slice_get names at)

-- no two positions have the same id
abbrev pub AllDiffer : List Text → Type 0
AllDiffer names = (at : ℕ) → ¬ RepeatsAt names at

-- the least position whose id stands at an earlier position
abbrev pub IsFirstRepeat : List Text → ℕ → Type 0
IsFirstRepeat names at = RepeatsAt names at × ((k : ℕ) → k < at → ¬ RepeatsAt names k)

-- each link names a package
abbrev pub LinksKnown : List PackageMetadata → Type 0
LinksKnown packages = All (λ p. All (Contains (ids packages)) p.links.items) packages

-- this link of this package names no package
abbrev pub IsUnknownLink : List PackageMetadata → ℕ → ℕ → Type 0
IsUnknownLink packages owner link =
    (p : PackageMetadata) × (id : Text) × (slice_get packages owner ≡ Some p)
    × (slice_get p.links.items link ≡ Some id) × ¬ Contains (ids packages) id

-- the first position of a package, and in it the first position of a link, that names no package
abbrev pub IsFirstUnknownLink : List PackageMetadata → ℕ → ℕ → Type 0
IsFirstUnknownLink packages owner link =
    IsUnknownLink packages owner link
    × ((k j : ℕ) → k < owner → ¬ IsUnknownLink packages k j)
    × ((j : ℕ) → j < link → ¬ IsUnknownLink packages owner j)
