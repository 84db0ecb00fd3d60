use Rattle.std.proofs.Common.{◌<◌, length, map, take}
use Rattle.std.specs.Prelude.{flat_map}
use Rattle.filterset_configuration.specs.{PlatformTrees.facts_of, Ranking.IsRanked, Ranking.placed}
use Rattle.filterset_configuration.proofs.{Ranks.flat_more, Zips.zip_append}
use Rattle.filterset_configuration.proofs.ranking.rank_overrides.Goals as goal

pub loop-profile-preserved : goal.loop-profile-preserved
loop-profile-preserved c =
    let lineage = c.args.lineage.now in
    let i = c.loop-profile.profile-index in
    let profile = c.profile-item.result in
    let more = c.in_ok-push_overrides.ensures in
    rw (flat_more placed lineage i profile c.loop-profile-test.true c.profile-item.is, more.1)
    (zip_append (IsRanked (facts_of c.args.host.now) (facts_of c.args.target.now)) (flat_map placed (map (λ p. p.now) (take i lineage))) c.loop-profile.ranked.items
    (placed profile.now) more.0 c.loop-profile.invariant more.2)
