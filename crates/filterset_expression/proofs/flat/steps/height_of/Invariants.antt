use Rattle.std.proofs.Common.{◌≡◌, ◌≤◌, max, true, drop, length}
use Rattle.filterset_expression.specs.{Running.leaves_one, Running.greatest_height, FlatSteps.steps_of}
use Rattle.filterset_expression.proofs.flat.steps.height_of.Given as goal

abbrev pub invariant-loop-step : goal.invariant-loop-step
invariant-loop-step l =
    record { within : l.step-index ≤ length l.steps; counted : l.height ≤ l.step-index; greatest_so_far : l.height ≤ l.greatest; runs : leaves_one (steps_of (drop l.step-index l.steps)) l.height ≡ true; greatest_of_all : max l.greatest (greatest_height (steps_of (drop l.step-index l.steps)) l.height) ≡ greatest_height (steps_of l.steps) 0 }
