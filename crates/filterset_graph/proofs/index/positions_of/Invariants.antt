use Rattle.std.proofs.Common.{take}
use Rattle.filterset_graph.specs.{Index.PositionsAre, Packages.ids}
use Rattle.filterset_graph.proofs.index.positions_of.Given as goal

abbrev pub invariant-loop-at : goal.invariant-loop-at
invariant-loop-at l = PositionsAre l.positions (take l.at (ids l.packages))
