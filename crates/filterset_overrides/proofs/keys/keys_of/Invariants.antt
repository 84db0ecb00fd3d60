use Rattle.std.proofs.Common.{◌++◌, map, take}
use Rattle.filterset_overrides.specs.Giving.{AreDistinctOf, override_settings, profile_settings}
use Rattle.filterset_overrides.proofs.keys.keys_of.Given as goal

-- the keys of the overrides so far were added
abbrev pub invariant-loop-asked : goal.invariant-loop-asked
invariant-loop-asked l = AreDistinctOf (override_settings (take l.asked-index l.overrides)) (map (λ k. k.now) l.keys.items)

-- and those of the profiles so far
abbrev pub invariant-loop-profile : goal.invariant-loop-profile
invariant-loop-profile l = AreDistinctOf (override_settings l.overrides ++ profile_settings (take l.profile-index l.profiles)) (map (λ k. k.now) l.keys.items)
