use Rattle.std.proofs.Common.{◌≡◌, [], drop}
use Rattle.std.specs.List.{AllByRecursion}
use Rattle.filterset_deciding.specs.{Running.kleene_run, Running.tops, Waiting.WaitsIn}
use Rattle.filterset_deciding.proofs.running.run.Given as goal

-- the steps that are left make of the stack what all steps make, and unknown values wait for open leaves
abbrev pub invariant-loop-at : goal.invariant-loop-at
invariant-loop-at l =
    record {
      ran : kleene_run (drop l.at l.branch) (tops l.stack.items) ≡ kleene_run l.branch [];
      waits : AllByRecursion (WaitsIn l.branch) l.stack.items;
    }
