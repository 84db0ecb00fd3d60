use Rattle.std.proofs.Common.{take}
use Rattle.filterset_deciding.specs.Texts.{NoneEqual}
use Rattle.filterset_deciding.proofs.texts.only_text.Given as goal

abbrev pub invariant-loop-demand : goal.invariant-loop-demand
invariant-loop-demand l = NoneEqual (take l.demand-index l.demands)
