use Rattle.std.proofs.Common.{◌≡◌, All, false, take}
use Rattle.filterset_overrides.specs.{Applying.sets, declared.asked.AskedProfile.AskedProfile}
use Rattle.filterset_overrides.proofs.explaining.first_profile.Given as goal

-- none of the profiles so far sets the key
abbrev pub invariant-loop-profile : goal.invariant-loop-profile
invariant-loop-profile l = All (λ (p : AskedProfile). sets p.settings.now l.key ≡ false) (take l.profile-index l.profiles)
