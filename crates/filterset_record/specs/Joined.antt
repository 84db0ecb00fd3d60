-- Names that stand one after the other.
use Rattle.std.specs.{Prelude.ℕ, Prelude.List, Prelude.length, Prelude.take, Borrow.Bor, List.flat_map}
use Rattle.filterset_graph.specs.declared.binary.TestCaseName.{TestCaseName}

-- the names, one after the other
abbrev pub joined : List (Bor TestCaseName) → List ℕ
joined names = flat_map (λ name. name.now) names

-- where the name at a position begins among them
abbrev pub offset : List (Bor TestCaseName) → ℕ → ℕ
offset names position = length (joined (take position names))
