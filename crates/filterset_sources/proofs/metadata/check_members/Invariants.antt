use Rattle.std.proofs.Common.{take}
use Rattle.std.specs.Prelude.{All}
use Rattle.filterset_sources.specs.Metadata.{IsKnown}
use Rattle.filterset_sources.proofs.metadata.check_members.Given as goal

abbrev pub invariant-loop-at : goal.invariant-loop-at
invariant-loop-at l = All (IsKnown l.known) (take l.at l.members)
