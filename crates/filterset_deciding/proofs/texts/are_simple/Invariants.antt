use Rattle.std.proofs.Common.{take}
use Rattle.filterset_deciding.specs.Texts.{AreSimple}
use Rattle.filterset_deciding.proofs.texts.are_simple.Given as goal

abbrev pub invariant-loop-demand : goal.invariant-loop-demand
invariant-loop-demand l = AreSimple l.c (take l.demand-index l.demands)
