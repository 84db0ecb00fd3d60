use Rattle.std.proofs.{Common.List, Common.Some, Common.false, Common.subst, Common.sym, lemmas.List.take_all}
use Rattle.filterset_overrides.specs.{Applying.DoesApply, Giving.Takes, Giving.asked_of}
use Rattle.filterset_overrides.specs.declared.applying.ExplainedOverride.{ExplainedOverride}
use Rattle.filterset_overrides.proofs.GivingLemmas.{by_profile, first_is, passed}
use Rattle.filterset_overrides.proofs.explaining.giver_of.Goals as goal

pub returns-in-Some : goal.returns-in-Some
returns-in-Some c packages default test are =
    let all = c.args.explained.now in
    let i = c.loop-one.one-index in
    let one = c.one-item.result in
    first_is packages default test c.args.key.now all i one c.loop-one-test.true (sym c.one-item.is) are (c.loop-one.invariant packages default test are) c.in-Some.giver c.in-Some.ensures.0 c.in-Some.ensures.1 c.args.profiles.now

pub loop-one-preserved : goal.loop-one-preserved
loop-one-preserved c packages default test are =
    let all = c.args.explained.now in
    let i = c.loop-one.one-index in
    let one = c.one-item.result in
    passed packages default test c.args.key.now all i one c.loop-one-test.true (sym c.one-item.is) are (c.loop-one.invariant packages default test are) c.in_default.ensures

pub returns : goal.returns
returns c packages default test are =
    by_profile (DoesApply packages default test) c.args.key.now (asked_of c.args.explained.now) c.args.profiles.now c.first_profile.result
    (subst (λ (es : List ExplainedOverride). Takes (DoesApply packages default test) c.args.key.now (asked_of es) (Some false)) (take_all c.loop-one.one-index c.args.explained.now c.loop-one-test.false) (c.loop-one.invariant packages default test are))
    c.first_profile.ensures
