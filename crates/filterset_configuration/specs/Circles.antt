-- Profiles that fall back on themselves.
use Rattle.std.specs.Prelude.{◌≡◌, ◌↔◌, ℕ, zero, suc, Bool, true, List, [], ◌∷◌, None, Option, Some, IsSome, bytes_eq, codes, if◌then◌else◌, option_and_then, option_copied, slice_get}
use Rattle.std.specs.{Borrow.Bor, BTreeMap.BTreeMap, BTreeMap.get_by, Cmp.Lexicographic.slice_cmp, Option.option_map_or}
use Rattle.std.specs.Ordering.{nat_cmp}
use Rattle.toml.specs.Data.{Data, Members, no_members, member, as_str, get, get_member}
use Rattle.filterset_json.specs.Shape.{Text}
use Rattle.filterset_sources.specs.{Configurations.keys_of, Sections.members_under}
use Rattle.filterset_configuration.specs.declared.circles.Link.{Link}

-- the name of the profile that the one of this name falls back on: `default`, unless it inherits from another; `default`
-- itself falls back on none, unless it inherits
abbrev pub fallback_of : Text → Data → Option Text
fallback_of name d =
    option_map_or as_str (get (codes "inherits") d)
    (if bytes_eq name (codes "default") then None else Some (codes "default"))

-- the name that the profile of a name falls back on, if there is one
abbrev pub fallback : Members → Text → Option Text
fallback profiles name = option_and_then (fallback_of name) (get_member name profiles)

-- the name that so many of these steps lead to
abbrev pub after : Members → ℕ → Text → Option Text
after profiles zero name = Some name
after profiles (suc n) name = option_and_then (after profiles n) (fallback profiles name)

-- one step or more lead from a profile back to it
abbrev pub FallsOnItself : Members → Text → Type 0
FallsOnItself profiles name = (n : ℕ) × (after profiles (suc n) name ≡ Some name)

-- the profile at a position falls back on itself
abbrev pub IsProfileInCircle : Members → ℕ → Type 0
IsProfileInCircle profiles at = (name : Text) × (slice_get (keys_of profiles) at ≡ Some name) × FallsOnItself profiles name

-- the same of a file
abbrev pub IsInCircle : Data → ℕ → Type 0
IsInCircle file at = IsProfileInCircle (members_under (codes "profile") file) at

-- exactly these profiles are marked
abbrev pub MarksCircles : Data → List Bool → Type 0
MarksCircles file marks = (at : ℕ) → (slice_get marks at ≡ Some true) ↔ IsInCircle file at

-- ---- how they are found

-- the name of each profile, with that of the one that it falls back on
abbrev pub links_of : Members → List (Text × Option Text)
links_of no_members = []
links_of (member name d ms) = (name, fallback_of name d) ∷ links_of ms

abbrev pub link_row : Link → Text × Option Text
link_row l = (l.name.now, option_copied l.fallback)

-- each name has one position
abbrev pub AreDistinct : List Text → Type 0
AreDistinct names = (i j : ℕ) (name : Text) → slice_get names i ≡ Some name → slice_get names j ≡ Some name → i ≡ j

abbrev pub position_of : BTreeMap (Bor Text) ℕ → Text → Option ℕ
position_of positions name = get_by (λ key. slice_cmp nat_cmp name key.now) positions

-- each name has a position at which it is, and nothing else has any
abbrev pub IsIndex : List Text → BTreeMap (Bor Text) ℕ → Type 0
IsIndex names positions =
    ((name : Text) (at : ℕ) → position_of positions name ≡ Some at → slice_get names at ≡ Some name)
    × ((name : Text) (at : ℕ) → slice_get names at ≡ Some name → IsSome (position_of positions name))
