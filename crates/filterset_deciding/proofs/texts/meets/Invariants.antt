use Rattle.std.proofs.Common.{take}
use Rattle.filterset_deciding.specs.Texts.{Meets}
use Rattle.filterset_deciding.proofs.texts.meets.Given as goal

abbrev pub invariant-loop-demand : goal.invariant-loop-demand
invariant-loop-demand l = Meets l.text (take l.demand-index l.demands)
