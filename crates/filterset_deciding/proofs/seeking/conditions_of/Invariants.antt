use Rattle.std.proofs.Common.{take}
use Rattle.filterset_deciding.specs.Sought.{AreConditionsOf}
use Rattle.filterset_deciding.proofs.seeking.conditions_of.Given as goal

abbrev pub invariant-loop-demand : goal.invariant-loop-demand
invariant-loop-demand l = AreConditionsOf (take l.demand-index l.demands) l.conditions.items
