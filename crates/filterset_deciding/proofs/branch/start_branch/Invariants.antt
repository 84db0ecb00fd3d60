use Rattle.std.proofs.Common.{◌≡◌, take}
use Rattle.filterset_expression.specs.FlatSteps.{steps_of}
use Rattle.filterset_deciding.specs.{AnyTest.AnyTest, Known.Agrees, Known.steps_in}
use Rattle.filterset_deciding.proofs.branch.start_branch.Given as goal

abbrev pub invariant-loop-step : goal.invariant-loop-step
invariant-loop-step l =
    record {
      steps : steps_in l.made.items ≡ steps_of (take l.step-index l.steps);
      known : (test : AnyTest) → Agrees test l.made.items;
    }
