use Rattle.std.proofs.Common.{take}
use Rattle.filterset_graph.specs.Index.{PositionsAre}
use Rattle.filterset_sources.proofs.metadata.positions_of.Given as goal

abbrev pub invariant-loop-at : goal.invariant-loop-at
invariant-loop-at l = PositionsAre l.positions (take l.at l.ids)
