-- Packages that are marked by position.
use Rattle.std.specs.Prelude.{◌≡◌, ◌↔◌, List, ℕ, Bool, Some, Vec, slice_get}
use Rattle.std.specs.Global.{Global}
use Rattle.filterset_graph.specs.declared.package.PackageMetadata.{PackageMetadata}
use Rattle.filterset_graph.specs.{Packages.Text, Packages.Path, Packages.ids, Walks.IsMarked}

-- a package with this id is marked
abbrev pub IsMarkedId : List PackageMetadata → List Bool → Text → Type 0
IsMarkedId packages marks id = (k : ℕ) × (slice_get (ids packages) k ≡ Some id) × IsMarked marks k

-- exactly the packages are marked to which a path leads from one of the starts
abbrev pub MarksReached : List PackageMetadata → List Bool → Vec Bool Global → Type 0
MarksReached packages starts marks =
    (id : Text) → IsMarkedId packages marks.items id
    ↔ ((start : Text) × IsMarkedId packages starts start × Path packages start id)

-- exactly the packages are marked from which a path leads to one of the ends
abbrev pub MarksReaching : List PackageMetadata → List Bool → Vec Bool Global → Type 0
MarksReaching packages ends marks =
    (id : Text) → IsMarkedId packages marks.items id
    ↔ ((end : Text) × IsMarkedId packages ends end × Path packages id end)
