use Rattle.std.proofs.Common.{◌≡◌, drop, map}
use Rattle.std.specs.Prelude.{find, is_some}
use Rattle.filterset_configuration.proofs.defaults.first_own_default.Given as goal

abbrev pub invariant-loop-profile : goal.invariant-loop-profile
invariant-loop-profile l =
    find (λ p. is_some p.default_filter) (map (λ p. p.now) (drop l.profile-index l.lineage))
    ≡ find (λ p. is_some p.default_filter) (map (λ p. p.now) l.lineage)
