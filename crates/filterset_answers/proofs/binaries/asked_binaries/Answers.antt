use Rattle.std.proofs.Common.{rules, arith, ◌≡◌, ◌<◌, length, get_or, take}
use Rattle.std.proofs.lemmas.List.{take_all}
use Rattle.filterset_listing.proofs.ListingLemmas.{AllZip-push, one_more}
use Rattle.filterset_answers.specs.Binaries.{IsAsked}
use Rattle.filterset_answers.proofs.binaries.asked_binaries.Goals as goal

pub returns : goal.returns
returns c =
    let all = c.loop-suite.invariant in
    rw (take_all c.loop-suite.suite-index c.args.suites.now c.loop-suite-test.false) at all

pub loop-suite-preserved : goal.loop-suite-preserved
loop-suite-preserved c =
    let suites = c.args.suites.now in
    let i = c.loop-suite.suite-index in
    let suite = c.suite-item.result in
    let lt : i < length suites = omega (arith, c.loop-suite-test.true) in
    let at : get_or suites i suite ≡ suite = search (rules, c.suite-item.is) in
    rw (c.in_ok-push.ensures.items, one_more suites i suite lt at) (AllZip-push IsAsked (take i suites) _ suite _ c.loop-suite.invariant (search rules))
