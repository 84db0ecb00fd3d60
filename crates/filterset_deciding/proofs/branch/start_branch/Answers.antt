use Rattle.std.proofs.Common.{rules, arith, ◌≡◌, ◌<◌, length, get_or}
use Rattle.filterset_expression.specs.FlatSteps.{step_of}
use Rattle.filterset_deciding.specs.{Known.IsKnownStep, declared.running.ValuedStep.ValuedStep}
use Rattle.filterset_deciding.proofs.Branches.{each_pushed, mapped_more}
use Rattle.filterset_deciding.proofs.branch.start_branch.Goals as goal

pub loop-step-preserved : goal.loop-step-preserved
loop-step-preserved c =
    let steps = c.args.steps.now in
    let i = c.loop-step.step-index in
    let s = c.step-item.result in
    let made = c.loop-step.made.items in
    let y = c.place_step.result in
    let lt : i < length steps = omega (arith, c.loop-step-test.true) in
    let at : get_or steps i s ≡ s = search (rules, c.step-item.is) in
    record {
      steps = rw c.in_ok-push.ensures.items (mapped_more (λ (q : ValuedStep). step_of q.step) step_of made y steps i s lt at c.place_step.ensures.step c.loop-step.invariant.steps);
      known = λ test.
          rw c.in_ok-push.ensures.items
          (each_pushed (λ (q : ValuedStep). IsKnownStep test (step_of q.step) q.value) made y (c.loop-step.invariant.known test) (c.place_step.ensures.known test));
    }
