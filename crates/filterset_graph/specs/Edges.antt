-- Walks along edges between positions, given as rows of positions. Only proofs cite this file.
use Rattle.std.specs.Prelude.{◌≡◌, ◌<◌, List, ℕ, Bool, Some, Contains, slice_get}
use Rattle.std.specs.declared.{vec.Vec.Vec, alloc.Global.Global}
use Rattle.filterset_graph.specs.Walks.{Follows, IsMarked}

-- the row of the position a names the position b
abbrev pub HasEdge : List (Vec ℕ Global) → ℕ → ℕ → Type 0
HasEdge edges a b = (row : Vec ℕ Global) × (slice_get edges a ≡ Some row) × Contains row.items b

-- a list of positions from a to b, each with an edge to the next
abbrev pub Walk : List (Vec ℕ Global) → ℕ → ℕ → Type 0
Walk edges a b = (rest : List ℕ) × Follows (HasEdge edges) a rest b

-- each row names positions below n
abbrev pub EdgesStayBelow : ℕ → List (Vec ℕ Global) → Type 0
EdgesStayBelow n edges = (a b : ℕ) → HasEdge edges a b → b < n

-- the position k is one of the starts, or a walk leads to it from one
abbrev pub IsReached : List (Vec ℕ Global) → List Bool → ℕ → Type 0
IsReached edges starts k = (start : ℕ) × IsMarked starts start × Walk edges start k
