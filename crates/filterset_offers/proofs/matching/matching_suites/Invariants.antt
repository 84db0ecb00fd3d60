use Rattle.std.proofs.Common.{◌≡◌, map, take}
use Rattle.filterset_matchers.specs.Matchers.{matcher_of}
use Rattle.filterset_offers.specs.{Matched.PicksSuite, Matched.binary_id, ReadyMatchers.ready_matcher, Sieves.SelectsAs}
use Rattle.filterset_offers.proofs.matching.matching_suites.Given as goal

-- the test binaries so far that match
abbrev pub invariant-loop-suite : goal.invariant-loop-suite
invariant-loop-suite l =
    (ready_matcher l.ready ≡ matcher_of l.matcher)
    × SelectsAs (PicksSuite l.compared (matcher_of l.matcher)) binary_id (take l.suite-index l.suites) (map (λ n. n.now) l.found.items)
