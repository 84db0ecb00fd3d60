-- What nextest's configuration says of profiles. What is missing is as if it were empty.
use Rattle.std.specs.Prelude.{◌≡◌, ◌||◌, Bool, false, List, [], ◌∷◌, Option, None, Some, String, IsSome, IsSomeAnd, IsTrue, MatchOption, bytes_eq, codes, filter, if◌then◌else◌, is_none, is_some, map, not, option_and_then, string_bytes, unwrap_or, zip}
use Rattle.std.specs.{List.AllZip, List.list_any, Option.option_map_or, declared.alloc.Global.Global}
use Rattle.toml.specs.Data.{Data, string, array, table, no_items, no_members, as_table, get}
use Rattle.toml.specs.View.{items_of, members_of}
use Rattle.filterset_sources.specs.Configurations.{IsFile, keys_of}
use Rattle.filterset_configuration.specs.{PlatformGrammar.Spells, PlatformTrees.spec_of}
use Rattle.filterset_configuration.specs.declared.platforms.filter.PlatformFilter.{PlatformFilter}
use Rattle.filterset_configuration.specs.declared.platforms.specification.PlatformSpec.{PlatformSpec}
use Rattle.filterset_configuration.specs.declared.{overrides.Override.Override, profiles.Profile.Profile}
use Rattle.filterset_configuration.specs.declared.wrong.ValueRole.{ValueRole}
use Rattle.filterset_configuration.specs.declared.wrong.ValueRole.TheVariants.{ForBoth, ForNothing}
use Rattle.filterset_json.specs.Shape.{Text}

-- the value under a key is one that A says, and there is none where nothing is under the key
abbrev pub Under : {X : Type 0} → (Data → X → Type 0) → Text → Data → Option X → Type 0
Under A key d o = MatchOption (get key d) (o ≡ None) (λ e. IsSomeAnd o (A e))

abbrev pub IsText : Data → String Global → Type 0
IsText e s = e ≡ string (string_bytes s)

-- a text that is this platform
abbrev pub IsPlatform : Data → PlatformSpec → Type 0
IsPlatform e spec = (t : Text) × (e ≡ string t) × Spells t (spec_of spec)

-- a table has both parts, and a text is the target's
abbrev pub ArePlatforms : Data → PlatformFilter → Type 0
ArePlatforms e p =
    MatchOption (as_table e) ((p.host ≡ None) × IsSomeAnd p.target (IsPlatform e))
    (λ ms. Under IsPlatform (codes "host") e p.host × Under IsPlatform (codes "target") e p.target)

-- a group is `@global`, or a key of the file's `[test-groups]`
abbrev pub is_group : Data → Text → Bool
is_group file t = bytes_eq t (codes "@global") || is_some (option_and_then (get t) (get (codes "test-groups") file))

abbrev pub IsGroup : Data → Data → String Global → Type 0
IsGroup file e s = IsText e s × IsTrue (is_group file (string_bytes s))

-- the keys that a table sets: all but the others
abbrev pub settings_but : List Text → Data → List Text
settings_but others d =
    filter (λ key. not (list_any (λ other. bytes_eq other key) others)) (option_map_or keys_of (as_table d) [])

-- an override says for what it is, and a default filter is for platforms alone
abbrev pub has_platform : Data → Bool
has_platform d = option_map_or (λ e. is_none (as_table e) || (is_some (get (codes "host") e) || is_some (get (codes "target") e)))
    (get (codes "platform") d) false

abbrev pub shape_of : Data → Option ValueRole
shape_of d =
    if is_none (get (codes "filter") d) then if has_platform d then None else Some ForNothing
    else if is_some (get (codes "default-filter") d) then Some ForBoth else None

abbrev pub IsOverride : Data → Data → Override → Type 0
IsOverride file d o =
    IsSome (as_table d) × ArePlatforms (unwrap_or (get (codes "platform") d) (table no_members)) o.platform
    × Under IsText (codes "filter") d o.filter × Under IsText (codes "default-filter") d o.default_filter
    × Under (IsGroup file) (codes "test-group") d o.test_group
    × (map string_bytes o.settings.items ≡ settings_but (codes "platform" ∷ codes "filter" ∷ codes "default-filter" ∷ []) d)
    × (shape_of d ≡ None)

-- a list of these overrides, in their order
abbrev pub AreOverrides : Data → Data → List Override → Type 0
AreOverrides file d os = (ds : List Data) × (d ≡ array (items_of ds)) × AllZip (IsOverride file) ds os

abbrev pub IsProfile : Data → Data → Profile → Type 0
IsProfile file d p =
    IsSome (as_table d) × Under IsText (codes "inherits") d p.inherits
    × Under IsText (codes "default-filter") d p.default_filter
    × AreOverrides file (unwrap_or (get (codes "overrides") d) (array no_items)) p.overrides.items
    × (map string_bytes p.settings.items ≡ settings_but (codes "inherits" ∷ codes "default-filter" ∷ codes "overrides" ∷ []) d)

-- a table of these profiles, by the order of their names
abbrev pub AreProfiles : Data → Data → List Profile → Type 0
AreProfiles file d ps =
    (ds : List Data) × (d ≡ table (members_of (zip (map (λ p. p.name) ps) ds))) × AllZip (IsProfile file) ds ps

-- the text is TOML with these profiles
abbrev pub HasProfiles : Text → List Profile → Type 0
HasProfiles text ps =
    (file : Data) × IsFile text file × AreProfiles file (unwrap_or (get (codes "profile") file) (table no_members)) ps
