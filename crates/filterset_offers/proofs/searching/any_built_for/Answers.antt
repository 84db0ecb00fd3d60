use Rattle.std.proofs.Common.{sym}
use Rattle.filterset_offers.specs.Matched.{IsBuiltFor}
use Rattle.filterset_offers.proofs.AnyLemmas.{found, not_found}
use Rattle.filterset_offers.proofs.searching.any_built_for.Goals as goal

pub returns-then-is_built_for : goal.returns-then-is_built_for
returns-then-is_built_for c =
    found (IsBuiltFor c.args.platform) c.args.suites.now c.loop-suite.suite-index c.suite-item.result c.loop-suite-test.true (sym c.suite-item.is)
    (c.is_built_for.ensures.0 c.if-is_built_for.true)

pub returns : goal.returns
returns c = not_found (IsBuiltFor c.args.platform) c.args.suites.now c.loop-suite.suite-index c.loop-suite-test.false c.loop-suite.invariant
