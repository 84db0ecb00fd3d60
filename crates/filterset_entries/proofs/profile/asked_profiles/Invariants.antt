use Rattle.std.proofs.Common.{map, take}
use Rattle.std.specs.List.{AllZip}
use Rattle.filterset_entries.specs.Profile.{IsProfileOf}
use Rattle.filterset_entries.proofs.profile.asked_profiles.Given as goal

-- the profiles so far
abbrev pub invariant-loop-profile : goal.invariant-loop-profile
invariant-loop-profile l = AllZip IsProfileOf (map (λ p. p.now) (take l.profile-index l.profiles)) l.asked.items
