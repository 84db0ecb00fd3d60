use Rattle.std.proofs.Common.{◌≡◌, ◌++◌, List, take}
use Rattle.std.specs.List.{AllZip}
use Rattle.filterset_configuration.specs.{PlatformTrees.facts_of, Ranking.IsRanked, Ranking.placed}
use Rattle.filterset_configuration.specs.declared.ranking.RankedOverride.{RankedOverride}
use Rattle.filterset_configuration.proofs.ranking.push_overrides.Given as goal

-- the overrides so far
abbrev pub invariant-loop-at : goal.invariant-loop-at
invariant-loop-at l =
    (more : List RankedOverride) × (l.ranked.items ≡ l.initial.ranked.items ++ more)
    × AllZip (IsRanked (facts_of l.host) (facts_of l.target)) (take l.at (placed l.profile)) more
