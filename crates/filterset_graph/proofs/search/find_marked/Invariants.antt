use Rattle.std.proofs.Common.{◌<◌, ◌↔◌, ℕ, Contains}
use Rattle.filterset_graph.specs.Walks.{IsMarked}
use Rattle.filterset_graph.proofs.search.find_marked.Given as goal

abbrev pub invariant-loop-position : goal.invariant-loop-position
invariant-loop-position l =
    (k : ℕ) → Contains l.positions.items k ↔ ((k < l.position) × IsMarked l.marks k)
