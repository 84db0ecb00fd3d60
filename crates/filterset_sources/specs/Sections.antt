-- The sections of nextest's configuration: the tables and lists whose keys and items are read, each with its path.
use Rattle.std.specs.Prelude.{ℕ, ◌+◌, ◌++◌, List, [], ◌∷◌, None, Option, Some, codes, if◌then◌else◌, is_some, map, option_and_then, option_map, option_to_list, string_bytes, unwrap_or}
use Rattle.std.specs.Option.{option_map_or}
use Rattle.toml.specs.Data.{Data, Items, no_items, item, Members, no_members, member, as_array, as_table, get}
use Rattle.toml.specs.View.{view}
use Rattle.filterset_json.specs.{Paths.key_text, Shape.Text}
use Rattle.filterset_sources.specs.Shape.{item_path}
use Rattle.filterset_sources.specs.declared.sections.{Section.Section, SectionKind.SectionKind}
use Rattle.filterset_sources.specs.declared.sections.SectionKind.TheVariants.{File, Profiles, Profile, List as ListKind, Override, Script, Groups}

-- what a section is, its path, and the value there
pub record SectionRow : Type 0 where
  pub kind : SectionKind
  pub path : Text
  pub value : Data

abbrev pub row : SectionKind → Text → Data → SectionRow
row is at d = record { kind = is; path = at; value = d }

abbrev pub section_row : Section → SectionRow
section_row s = row s.kind (string_bytes s.path) (view s.value.now)

abbrev pub section_rows : List Section → List SectionRow
section_rows sections = map section_row sections

-- what a section must be, if it is not
abbrev pub wrong_shape : SectionKind → Data → Option Text
wrong_shape ListKind d = if is_some (as_array d) then None else Some (codes "a list")
wrong_shape _ d = if is_some (as_table d) then None else Some (codes "a table")

-- the path to the value under a key of the one at a path
abbrev pub below : Text → Text → Text
below path key = path ++ (codes "." ++ key)

-- the members of the table under a key
abbrev pub members_under : Text → Data → Members
members_under key d = unwrap_or (option_and_then as_table (get key d)) no_members

-- the section at a path, under a key of a value
abbrev pub sections_under : SectionKind → Text → Text → Data → List SectionRow
sections_under kind path key d = option_to_list (option_map (row kind path) (get key d))

-- the items of the list at a path, of which the first has this position
abbrev pub item_sections : SectionKind → Text → ℕ → Items → List SectionRow
item_sections kind path at no_items = []
item_sections kind path at (item d ds) = row kind (item_path path at) d ∷ item_sections kind path (at + 1) ds

-- the list at a path, under a key of a profile, and its items
abbrev pub list_sections : SectionKind → Text → Text → Data → List SectionRow
list_sections kind path key d = sections_under ListKind path key d
    ++ option_map_or (item_sections kind path 0) (option_and_then as_array (get key d)) []

-- the profile of a position, and its lists
abbrev pub profile_sections : Text → ℕ → Data → List SectionRow
profile_sections path at d = row (Profile at) path d
    ∷ (list_sections Override (below path (codes "overrides")) (codes "overrides") d
    ++ list_sections Script (below path (codes "scripts")) (codes "scripts") d)

-- those of profiles, of which the first has this position
abbrev pub member_sections : ℕ → Members → List SectionRow
member_sections at no_members = []
member_sections at (member name d ms) =
    profile_sections (below (codes "profile") (key_text name)) at d ++ member_sections (at + 1) ms

-- those of a file, each before those inside it
abbrev pub sections_of : Data → List SectionRow
sections_of file = row File [] file ∷ (sections_under Profiles (codes "profile") (codes "profile") file
    ++ (member_sections 0 (members_under (codes "profile") file)
    ++ sections_under Groups (codes "test-groups") (codes "test-groups") file))
