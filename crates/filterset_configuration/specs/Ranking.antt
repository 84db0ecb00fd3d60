-- The overrides that a profile has by its lineage, in order, and the default filter that follows.
use Rattle.std.specs.Prelude.{◌≡◌, ◌++◌, ◌&&◌, ℕ, true, List, Option, None, Some, String, IsSomeAnd, MatchOption, codes, find, is_some, map, option_map, string_bytes, unwrap_or}
use Rattle.std.specs.{Borrow.Bor, List.enumerate_from, declared.alloc.Global.Global}
use Rattle.filterset_configuration.specs.{Paths.override_path, Paths.profile_path, PlatformTrees.Facts}
use Rattle.filterset_configuration.specs.{PlatformValues.applies, declared.defaults.DefaultFilter.DefaultFilter}
use Rattle.filterset_configuration.specs.declared.defaults.DefaultFilter.TheVariants.{All, Set, Unknown}
use Rattle.filterset_configuration.specs.declared.{overrides.Override.Override, profiles.Profile.Profile}
use Rattle.filterset_configuration.specs.declared.ranking.RankedOverride.{RankedOverride}
use Rattle.filterset_json.specs.Shape.{Text}

-- the overrides of a profile, with their paths
abbrev pub placed : Profile → List (Text × Override)
placed p =
    map (λ (x : ℕ × Override). (override_path (profile_path (string_bytes p.name)) x.0, x.1)) (enumerate_from 0 p.overrides.items)

-- an override with its path, and whether its platforms apply to what is built for the target, and for the host
abbrev pub IsRanked : Facts → Facts → Text × Override → RankedOverride → Type 0
IsRanked host target x r =
    (string_bytes r.path ≡ x.0) × (r.read.now ≡ x.1)
    × (r.for_target ≡ applies host target x.1.platform) × (r.for_host ≡ applies host host x.1.platform)

-- the first override that sets a default filter, of those whose platforms may apply
abbrev pub first_default : List RankedOverride → Option RankedOverride
first_default ranked = find (λ r. is_some r.read.now.default_filter && unwrap_or r.for_target true) ranked

abbrev pub IsSetAt : Text → Option (String Global) → String Global → Bor Text → Type 0
IsSetAt at o path text = (string_bytes path ≡ at ++ codes ".default-filter") × (option_map string_bytes o ≡ Some text.now)

-- the default filter is that override's, or unknown as its platforms are; else the first profile's that sets one, or all
abbrev pub IsDefaultFilter : List RankedOverride → List Profile → DefaultFilter → Type 0
IsDefaultFilter ranked lineage (Set path text) =
    MatchOption (first_default ranked)
    (IsSomeAnd (find (λ p. is_some p.default_filter) lineage)
    (λ p. IsSetAt (profile_path (string_bytes p.name)) p.default_filter path text))
    (λ r. (r.for_target ≡ Some true) × IsSetAt (string_bytes r.path) r.read.now.default_filter path text)
IsDefaultFilter ranked lineage (Unknown path) =
    IsSomeAnd (first_default ranked) (λ r. (r.for_target ≡ None) × (string_bytes path ≡ string_bytes r.path))
IsDefaultFilter ranked lineage All =
    (first_default ranked ≡ None) × (find (λ p. is_some p.default_filter) lineage ≡ None)

-- the default filter is set at the path, to the text
abbrev pub IsSetTo : Text → Text → DefaultFilter → Type 0
IsSetTo at text (Set path found) = (string_bytes path ≡ at ++ codes ".default-filter") × (found.now ≡ text)
IsSetTo at text filter = ⊥
