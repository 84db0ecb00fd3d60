use Rattle.std.proofs.Common.{rules, arith, ◌≡◌, ◌<◌, ◌∙◌, true, length, get_or, refl, sym}
use Rattle.std.proofs.lemmas.{Bool.false≢true, List.take_all}
use Rattle.filterset_expression.specs.FlatSteps.{step_of}
use Rattle.filterset_deciding.specs.{AnyTest.AnyTest, Aspects.IsKnownOn, Aspects.is_constant}
use Rattle.filterset_deciding.specs.declared.running.ValuedStep.{ValuedStep}
use Rattle.filterset_deciding.proofs.Agreeing.{each_taken, not_each}
use Rattle.filterset_deciding.proofs.aspects.are_constants_right.Goals as goal

abbrev On : AnyTest → ValuedStep → Type 0
On test q = IsKnownOn (λ leaf. is_constant leaf ≡ true) test (step_of q.step) q.value

pub returns-then-not-is_constant_right : goal.returns-then-not-is_constant_right
returns-then-not-is_constant_right c = λ test.
    let branch = c.args.branch.now in
    let i = c.loop-placed.placed-index in
    let p = c.placed-item.result in
    let lt : i < length branch = omega (arith, c.loop-placed-test.true) in
    let at : get_or branch i p ≡ p = search (rules, c.placed-item.is) in
    (λ e. absurd (false≢true e), λ agrees. absurd (not_each (On test) branch i p lt at (λ known. false≢true (sym c.if-not-is_constant_right.true ∙ (c.is_constant_right.ensures test).1 known)) agrees))

pub loop-placed-preserved : goal.loop-placed-preserved
loop-placed-preserved c = λ test.
    let branch = c.args.branch.now in
    let i = c.loop-placed.placed-index in
    let p = c.placed-item.result in
    let lt : i < length branch = omega (arith, c.loop-placed-test.true) in
    let at : get_or branch i p ≡ p = search (rules, c.placed-item.is) in
    each_taken (On test) branch i p lt at (c.loop-placed.invariant test) ((c.is_constant_right.ensures test).0 c.if-not-is_constant_right.false)

pub returns : goal.returns
returns c = λ test.
    (λ e. rw (take_all c.loop-placed.placed-index c.args.branch.now c.loop-placed-test.false) at (c.loop-placed.invariant test), λ agrees. refl)
