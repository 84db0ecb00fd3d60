use Rattle.std.proofs.Common.{take}
use Rattle.std.specs.Prelude.{All}
use Rattle.filterset_sources.specs.Metadata.{IsKnown, NamesOnly}
use Rattle.filterset_sources.proofs.metadata.check_nodes.Given as goal

abbrev pub invariant-loop-at : goal.invariant-loop-at
invariant-loop-at l = All (NamesOnly (IsKnown l.known)) (take l.at l.nodes)
