use Rattle.std.proofs.Common.{map, take}
use Rattle.std.specs.{Prelude.flat_map, List.AllZip}
use Rattle.filterset_configuration.specs.{PlatformTrees.facts_of, Ranking.IsRanked, Ranking.placed}
use Rattle.filterset_configuration.proofs.ranking.rank_overrides.Given as goal

-- the overrides so far
abbrev pub invariant-loop-profile : goal.invariant-loop-profile
invariant-loop-profile l =
    AllZip (IsRanked (facts_of l.host) (facts_of l.target)) (flat_map placed (map (λ p. p.now) (take l.profile-index l.lineage))) l.ranked.items
