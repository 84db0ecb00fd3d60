use Rattle.std.proofs.Common.{◌≡◌, map, take}
use Rattle.std.specs.Prelude.{All}
use Rattle.filterset_matchers.specs.{Matcher.MatchesName, Matchers.matcher_of}
use Rattle.filterset_offers.specs.ReadyMatchers.{ready_matcher}
use Rattle.filterset_offers.proofs.searching.any_name.Given as goal

-- no name so far matches
abbrev pub invariant-loop-name : goal.invariant-loop-name
invariant-loop-name l =
    (ready_matcher l.ready ≡ matcher_of l.matcher)
    × All (λ name. ¬ MatchesName (matcher_of l.matcher) name) (take l.name-index (map (λ n. n.now) l.names))
