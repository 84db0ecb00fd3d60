use Rattle.std.proofs.Common.{take}
use Rattle.std.specs.{Prelude.Contains, List.AllByRecursion}
use Rattle.filterset_deciding.specs.Texts.{IsAmong}
use Rattle.filterset_deciding.proofs.demand.Doubt.without_repeats.Given as goal

-- the demands that are kept so far are some of all, and all so far are among them
abbrev pub invariant-loop-demand : goal.invariant-loop-demand
invariant-loop-demand l =
    record {
      some : AllByRecursion (Contains l.self.demands.items) l.demands.items;
      among : AllByRecursion (IsAmong l.demands.items) (take l.demand-index l.self.demands.items);
    }
