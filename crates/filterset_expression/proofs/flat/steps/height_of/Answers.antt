use Rattle.std.proofs.Common.{◌≡◌, ◌≤◌, ◌+◌, sym, ◌∙◌, ◌∷◌, drop, arith}
use Rattle.filterset_expression.specs.Running.{height_after, step_of_action}
use Rattle.filterset_expression.specs.FlatSteps.{step_of, steps_of}
use Rattle.filterset_expression.proofs.FlatSteps.{steps_from, leaves_one_on, greatest_on, greatest_above, one_less-is}
use Rattle.filterset_expression.proofs.flat.steps.height_of.Goals as goal
use Rattle.filterset_expression.proofs.flat.steps.height_of.Goals.{in-Push, in-Negate, in-Combine}

pub loop-step-preserved : goal.loop-step-preserved
loop-step-preserved c =
    let steps = c.args.steps.now in
    let i = c.loop-step.step-index in
    let s = c.step-item.result in
    let height = c.loop-step.height in
    let rest = steps_of (drop (i + 1) steps) in
    let here : steps_of (drop i steps) ≡ step_of s ∷ steps_of (drop (i + 1) steps) = steps_from steps i s c.loop-step-test.true c.step-item.is in
    let acts : step_of s ≡ step_of_action c.action.result = sym c.action.ensures in
    let after : height_after (step_of s) height ≡ c.match-action.height = elim c.match-action.branch [
      | in-Push w ↦ rw (acts, w.in-Push.is) (omega (arith, w.height-is))
      | in-Negate w ↦ rw (acts, w.in-Negate.is) (omega (arith, w.height-is))
      | in-Combine w ↦ rw (acts, w.in-Combine.is) (one_less-is height ∙ sym w.height-is)
    ] in
    let greatest = greatest_on (step_of s) rest height c.match-action.height after in
    let above = greatest_above rest c.match-action.height in
    let more : c.match-action.height ≤ height + 1 = elim c.match-action.branch [
      | in-Push w ↦ omega (arith, w.height-is)
      | in-Negate w ↦ omega (arith, w.height-is)
      | in-Combine w ↦ omega (arith, w.height-is)
    ] in
    let so_far = rw here at c.loop-step.invariant.greatest_of_all in
    record {
      within = omega arith;
      counted = omega arith;
      greatest_so_far = omega (arith, c.max-greatest.ensures);
      runs = leaves_one_on (step_of s) rest height c.match-action.height after (rw here at c.loop-step.invariant.runs);
      greatest_of_all = omega (arith, c.max-greatest.ensures, greatest, above, so_far, c.loop-step.invariant.greatest_so_far);
    }
