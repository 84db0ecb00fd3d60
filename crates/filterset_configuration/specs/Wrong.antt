-- Which values of a configuration's profiles are wrong, other than its filtersets.
use Rattle.std.specs.Prelude.{◌≡◌, ◌++◌, ◌||◌, ◌⊎◌, ℕ, List, [], ◌∷◌, Some, IfSome, IsTrue, codes, flat_map, if◌then◌else◌, is_none, is_some, map, option_and_then, option_map, option_to_list, slice_get, string_bytes}
use Rattle.std.specs.Option.{option_map_or}
use Rattle.toml.specs.Data.{Data, Members, no_members, member, as_str, as_table, get}
use Rattle.toml.specs.View.{view}
use Rattle.filterset_json.specs.{Paths.key_text, Shape.Text}
use Rattle.filterset_configuration.specs.{Keys.Finds, Numbers.AreApart, Numbers.numbered, Places.IsNumberedPlace}
use Rattle.filterset_configuration.specs.declared.{place.Place.Place, stretch.Stretch.Stretch}
use Rattle.filterset_configuration.specs.{PlatformGrammar.Spells, PlatformTrees.Spec}
use Rattle.filterset_configuration.specs.Circles.{IsInCircle, MarksCircles}
use Rattle.filterset_configuration.specs.{Names.is_built_in, Names.is_reserved, Profiles.is_group, Profiles.shape_of}
use Rattle.filterset_configuration.specs.declared.placing.NumberedValues.{NumberedValues}
use Rattle.filterset_configuration.specs.declared.{checking.CheckedFile.CheckedFile, walking.Walk.Walk}
use Rattle.filterset_configuration.specs.declared.wrong.{ProfileValue.ProfileValue, ValueRole.ValueRole}
use Rattle.filterset_configuration.specs.declared.wrong.ValueRole.TheVariants.{ForBoth, ForNothing, Group, NoCircle, NoText, Parent, Platform, ReservedGroup, ReservedProfile}
use Rattle.filterset_configuration.specs.declared.wrong.WrongValue.{WrongValue}
use Rattle.filterset_sources.specs.Configurations.{IsFile}
use Rattle.filterset_sources.specs.Sections.{SectionRow, below, members_under, sections_of}
use Rattle.filterset_sources.specs.declared.sections.SectionKind.{SectionKind}
use Rattle.filterset_sources.specs.declared.sections.SectionKind.TheVariants as kinds

-- ---- the values that are checked

-- where a value is, what it is to be, and its text, which is empty if it is none
pub record ValueRow : Type 0 where
  pub path : Text
  pub role : ValueRole
  pub text : Text

abbrev pub row : Text → ValueRole → Text → ValueRow
row at to_be found = record { path = at; role = to_be; text = found }

abbrev pub value_row : ProfileValue → ValueRow
value_row v = row (string_bytes v.path) v.role (string_bytes v.text)

abbrev pub value_rows : List ProfileValue → List ValueRow
value_rows values = map value_row values

-- a walk finds these more
abbrev pub Adds : List ValueRow → Walk → Walk → Type 0
Adds rows old new = value_rows new.values.items ≡ value_rows old.values.items ++ rows

-- a value at a path, which is to be a text
abbrev pub text_row : Text → ValueRole → Data → ValueRow
text_row path role e = option_map_or (row path role) (as_str e) (row path NoText [])

abbrev pub value_under : Text → Text → ValueRole → Data → List ValueRow
value_under path key role d = option_to_list (option_map (text_row (below path key) role) (get key d))

-- the platforms of an override: a text, or the parts of a table
abbrev pub platform_values : Text → Data → List ValueRow
platform_values path d = let at = below path (codes "platform") in option_map_or (λ e. if is_none (as_table e) then text_row at Platform e ∷ []
    else (value_under at (codes "host") Platform e ++ value_under at (codes "target") Platform e)) (get (codes "platform") d) []

abbrev pub override_values : Text → Data → List ValueRow
override_values path d = value_under path (codes "test-group") Group d
    ++ (platform_values path d ++ option_to_list (option_map (λ role. row path role []) (shape_of d)))

-- the name that the profile at a position inherits from is also to lead to no circle
abbrev pub circle_values : Text → ℕ → Data → List ValueRow
circle_values path at d = option_to_list (option_map (row (below path (codes "inherits")) (NoCircle at))
    (option_and_then as_str (get (codes "inherits") d)))

-- those of a section
abbrev pub own_values : SectionKind → Text → Data → List ValueRow
own_values (kinds.Profile at) path d = value_under path (codes "inherits") Parent d ++ circle_values path at d
own_values kinds.Override path d = override_values path d
own_values _ path d = []

-- those of the members of the table at a path whose names are reserved
abbrev pub name_values : Text → ValueRole → Members → List ValueRow
name_values path role no_members = []
name_values path role (member name d ms) =
    (if is_reserved role name then row (below path (key_text name)) role [] ∷ [] else []) ++ name_values path role ms

-- those of a file
abbrev pub values_of : Data → List ValueRow
values_of file = flat_map (λ (s : SectionRow). own_values s.kind s.path s.value) (sections_of file)
    ++ (name_values (codes "profile") ReservedProfile (members_under (codes "profile") file)
    ++ name_values (codes "test-groups") ReservedGroup (members_under (codes "test-groups") file))

-- ---- which of them are wrong

-- a profile falls back on one that is built in, or on a key of the file's `[profile]`
abbrev pub IsRight : Data → ValueRole → Text → Type 0
IsRight file Parent t = IsTrue (is_built_in t || is_some (option_and_then (get t) (get (codes "profile") file)))
IsRight file (NoCircle at) t = ¬ IsInCircle file at
IsRight file Group t = IsTrue (is_group file t)
IsRight file Platform t = (spec : Spec) × Spells t spec
IsRight file _ t = ⊥

-- what such a value must be
abbrev pub expected : ValueRole → Text
expected Parent = codes "`default`, `default-miri` or a key of `[profile]`"
expected (NoCircle at) = codes "a profile that does not fall back on this one"
expected Group = codes "`@global` or a key of `[test-groups]`"
expected Platform = codes "a triple, or `cfg(..)`"
expected NoText = codes "a text"
expected ForNothing = codes "an override with `filter` or `platform`"
expected ForBoth = codes "an override without `filter` or without `default-filter`"
expected ReservedProfile = codes "a name that does not begin with `default-`"
expected ReservedGroup = codes "a name that does not begin with `@`"

-- The place is that of the value at this position: its literal is read as the value's text; and if in the file some literals
-- are replaced by their numbers, this one among them, then the value at this position has the same path, and the number of
-- this literal as its text.
abbrev pub IsValuePlace : Text → ℕ → ValueRow → Place → Type 0
IsValuePlace file at row place =
    (literals : List Stretch) × (made : Data) × (other : ValueRow) × AreApart 0 literals
    × IsFile (numbered file literals) made × (slice_get (values_of made) at ≡ Some other)
    × (other.path ≡ row.path) × IsNumberedPlace literals file row.text other.text place

-- what is said of a wrong value
abbrev pub IsWrongValue : Text → ℕ → ValueRow → WrongValue → Type 0
IsWrongValue file at row w = (string_bytes w.path ≡ row.path) × (w.expected.now ≡ expected row.role)
    × (string_bytes w.text ≡ row.text) × IfSome w.place (IsValuePlace file at row)

-- what is found of the value at this position: nothing, or that it is wrong
abbrev pub Judged : Text → Data → ℕ → ValueRow → List WrongValue → Type 0
Judged text file at row found = (IsRight file row.role row.text × (found ≡ []))
    ⊎ ((¬ IsRight file row.role row.text) × (w : WrongValue) × (found ≡ w ∷ []) × IsWrongValue text at row w)

-- these are the wrong values of a file
abbrev pub AreWrongValues : Text → List WrongValue → Type 0
AreWrongValues text found = (file : Data) × IsFile text file × Finds (Judged text file) 0 (values_of file) found

-- these are the values of the file with some of its literals replaced by their numbers
abbrev pub AreNumbered : Text → NumberedValues → Type 0
AreNumbered file n = AreApart 0 n.numbering.literals.items × (made : Data)
    × IsFile (numbered file n.numbering.literals.items) made × (value_rows n.values.items ≡ values_of made)

-- a file is known: its values with numbers, and which of its profiles fall back on themselves
abbrev pub IsKnown : CheckedFile → Type 0
IsKnown f = MarksCircles (view f.file.now) f.circles.items × IfSome f.numbered (AreNumbered f.text.now)
