use Rattle.std.proofs.Common.{rules, arith, ◌≡◌, ◌<◌, length, get_or, subst}
use Rattle.std.proofs.lemmas.Bool.Decides.{Decides-eqb}
use Rattle.filterset_expression.specs.FlatSteps.{step_of}
use Rattle.filterset_deciding.specs.{Known.IsKnownStep, declared.running.ValuedStep.ValuedStep}
use Rattle.filterset_deciding.proofs.Branches.{agrees_at, each_pushed, mapped_more}
use Rattle.filterset_deciding.proofs.Sizes.{narrowed_fewer, narrowed_most}
use Rattle.filterset_deciding.proofs.branch.narrow.Goals as goal

pub loop-i-preserved : goal.loop-i-preserved
loop-i-preserved c =
    let branch = c.args.branch.now in
    let i = c.loop-i.i in
    let p = c.index-branch-i.result in
    let made = c.loop-i.made.items in
    let y = c.in_ok-settle_step.field-0 in
    let f = λ (q : ValuedStep). step_of q.step in
    let lt : i < length branch = omega (arith, c.loop-i-test.true) in
    let at : get_or branch i p ≡ p = search (rules, c.index-branch-i.is) in
    record {
      steps = rw c.in_ok-push.ensures.items (mapped_more f f made y branch i p lt at c.in_ok-settle_step.ensures.step c.loop-i.invariant.steps);
      known = λ test says agrees.
          rw c.in_ok-push.ensures.items
          (each_pushed (λ (q : ValuedStep). IsKnownStep test (step_of q.step) q.value) made y (c.loop-i.invariant.known test says agrees)
          (c.in_ok-settle_step.ensures.known test says
          (λ here. c.requires p (subst (λ k. get_or branch k p ≡ p) ((Decides-eqb i c.args.at).0 here) at)) (agrees_at test branch i p lt at agrees)));
      most = rw c.in_ok-push.ensures.items (narrowed_most branch made i p y lt at c.loop-i.invariant.most c.in_ok-settle_step.ensures.fewer);
      fewer = λ within open'.
          rw c.in_ok-push.ensures.items
          (narrowed_fewer branch made i c.args.at p y lt at c.loop-i.invariant.most c.loop-i.invariant.fewer c.in_ok-settle_step.ensures.fewer
          (λ same. c.in_ok-settle_step.ensures.here ((Decides-eqb i c.args.at).1 same)) within open');
    }
