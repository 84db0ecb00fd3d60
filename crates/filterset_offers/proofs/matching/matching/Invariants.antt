use Rattle.std.proofs.Common.{◌≡◌, map, take}
use Rattle.filterset_matchers.specs.{Matcher.MatchesName, Matchers.matcher_of}
use Rattle.filterset_offers.specs.{ReadyMatchers.ready_matcher, Sieves.Selects}
use Rattle.filterset_offers.proofs.matching.matching.Given as goal

-- the names so far that match
abbrev pub invariant-loop-name : goal.invariant-loop-name
invariant-loop-name l =
    (ready_matcher l.ready ≡ matcher_of l.matcher)
    × Selects (MatchesName (matcher_of l.matcher)) (map (λ n. n.now) (take l.name-index l.names)) (map (λ n. n.now) l.found.items)
