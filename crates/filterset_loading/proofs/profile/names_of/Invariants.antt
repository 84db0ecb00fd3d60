use Rattle.std.proofs.Common.{◌≡◌, map, string_bytes, take}
use Rattle.filterset_loading.proofs.profile.names_of.Given as goal

-- the names so far
abbrev pub invariant-loop-profile : goal.invariant-loop-profile
invariant-loop-profile l = map (λ s. string_bytes s) l.names.items ≡ map (λ p. string_bytes p.name) (take l.profile-index l.profiles)
