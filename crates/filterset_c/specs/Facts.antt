-- That groups are known is a fact.
use mathlib.Core.Path.{refl}
use Rattle.nextest_filtering.specs.{Groups.IsKnown, declared.compile.context.KnownGroups.KnownGroups}
use Rattle.nextest_filtering.specs.declared.compile.context.KnownGroups.TheVariants.{Known, Unavailable}

pub is_known_prop : (groups : KnownGroups) → IsProp (IsKnown groups)
is_known_prop (Known names) x y = refl
is_known_prop Unavailable x y = absurd x
