-- The groups that filtersets may name.
use Rattle.std.specs.Prelude.{◌≡◌, ◌⊎◌, ◌↔◌, ℕ, List, [], Contains, codes, map, string_bytes}
use Rattle.std.specs.{HashSet.keys, declared.alloc.Global.Global, declared.string.String.String}
use Rattle.nextest_filtering.specs.declared.compile.context.KnownGroups.{KnownGroups}
use Rattle.nextest_filtering.specs.declared.compile.context.KnownGroups.TheVariants.{Known, Unavailable}

-- the names of the groups are known
abbrev pub IsKnown : KnownGroups → Type 0
IsKnown (Known custom_groups) = Unit {0}
IsKnown Unavailable = ⊥

-- a known group has the name: `@global`, or a custom one
abbrev pub IsGroupName : KnownGroups → List ℕ → Type 0
IsGroupName (Known custom_groups) name =
    (name ≡ codes "@global")
    ⊎ ((custom : String Global) × Contains (keys custom_groups) custom × (string_bytes custom ≡ name))
IsGroupName Unavailable name = ⊥

-- the groups are known, and the custom ones have these names and no others
abbrev pub AreGroups : List (List ℕ) → KnownGroups → Type 0
AreGroups names (Known custom_groups) =
    (name : List ℕ) → Contains (map (λ s. string_bytes s) (keys custom_groups)) name ↔ Contains names name
AreGroups names Unavailable = ⊥

-- no group but `@global` is known
abbrev pub IsGlobalOnly : KnownGroups → Type 0
IsGlobalOnly (Known custom_groups) = keys custom_groups ≡ []
IsGlobalOnly Unavailable = ⊥
