-- Matchers and the names of known groups.
use Rattle.std.proofs.Common.{◌↔◌, inr, ⊎_elim, refl, sym, subst}
use Rattle.std.specs.{Prelude.Any, Prelude.codes, Prelude.string_bytes, HashSet.keys}
use Rattle.filterset_matchers.specs.Matcher.{Matcher, MatchesName}
use Rattle.nextest_filtering.specs.{Checks.MatchesSomeName, Groups.IsGroupName}
use Rattle.nextest_filtering.specs.declared.compile.context.KnownGroups.TheVariants as groups

-- where it is not, some group is where a custom one is
pub custom_match : (matcher : Matcher) (custom : _) → ¬ MatchesName matcher (codes "@global")
    → Any (λ name. MatchesName matcher (string_bytes name)) (keys custom) ↔ MatchesSomeName matcher (IsGroupName (groups.Known custom))
custom_match matcher custom missed = (
  (λ some. (string_bytes some.1, inr (some.1, (some.0, some.2, some.3), refl), some.4)),
  (λ h. ⊎_elim (λ global. absurd (missed (subst (MatchesName matcher) global h.2)))
      (λ one. (one.1.0, one.0, one.1.1, one.1.2, subst (MatchesName matcher) (sym one.2) h.2)) h.1),
)
