-- The names of packages, one after the other.
use Rattle.std.specs.Prelude.{ℕ, ◌+◌, List, length, map, take, string_bytes}
use Rattle.std.specs.{Borrow.Bor, List.flat_map, List.range_with_len}
use Rattle.filterset_graph.specs.declared.package.PackageMetadata.{PackageMetadata}

abbrev pub name_of : Bor PackageMetadata → List ℕ
name_of p = string_bytes p.now.name

-- the names, one after the other
abbrev pub joined : List (Bor PackageMetadata) → List ℕ
joined packages = flat_map (λ p. name_of p) packages

-- where the name at a position begins among them
abbrev pub offset : List (Bor PackageMetadata) → ℕ → ℕ
offset packages position = length (joined (take position packages))

-- where each of the first so many names ends
abbrev pub ends_of : List (Bor PackageMetadata) → ℕ → List ℕ
ends_of packages count = map (λ k. offset packages (k + 1)) (range_with_len 0 count)
