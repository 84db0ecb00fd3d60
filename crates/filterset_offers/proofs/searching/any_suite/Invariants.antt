use Rattle.std.proofs.Common.{◌≡◌, take}
use Rattle.std.specs.Prelude.{All}
use Rattle.filterset_matchers.specs.Matchers.{matcher_of}
use Rattle.filterset_offers.specs.{Matched.PicksSuite, ReadyMatchers.ready_matcher}
use Rattle.filterset_offers.proofs.searching.any_suite.Given as goal

-- no test binary so far matches
abbrev pub invariant-loop-suite : goal.invariant-loop-suite
invariant-loop-suite l =
    (ready_matcher l.ready ≡ matcher_of l.matcher)
    × All (λ suite. ¬ PicksSuite l.compared (matcher_of l.matcher) suite) (take l.suite-index l.suites)
