-- Keys of a configuration that are not read, and are near one that is.
use Rattle.std.specs.Prelude.{◌≡◌, ◌+◌, ◌++◌, ◌⊎◌, ◌&&◌, ℕ, Bool, List, [], ◌∷◌, IfSome, IsFalse, IsTrue, bytes_eq, codes, flat_map, length, map, string_bytes}
use Rattle.std.specs.{List.list_any, Option.option_map_or}
use Rattle.toml.specs.Data.{Data, as_table}
use Rattle.filterset_faults.specs.{Span.span, declared.span.SourceSpan.SourceSpan}
use Rattle.filterset_json.specs.{Paths.key_text, Shape.Text}
use Rattle.filterset_configuration.specs.Edits.{IsMeant}
use Rattle.filterset_configuration.specs.declared.{keys.FoundKey.FoundKey, unknown.UnknownKey.UnknownKey}
use Rattle.filterset_sources.specs.{Configurations.IsFile, Configurations.keys_of, Sections.SectionRow, Sections.sections_of}
use Rattle.filterset_sources.specs.declared.sections.SectionKind.{SectionKind}
use Rattle.filterset_sources.specs.declared.sections.SectionKind.TheVariants.{File, Profile, Override, Script}

-- ---- the keys of the tables that are read

-- those that are read by their names
abbrev pub names_of : SectionKind → List Text
names_of File = codes "profile" ∷ codes "test-groups" ∷ []
names_of (Profile at) = codes "default-filter" ∷ codes "inherits" ∷ codes "overrides" ∷ codes "scripts" ∷ []
names_of Override = codes "filter" ∷ codes "platform" ∷ codes "default-filter" ∷ codes "test-group" ∷ []
names_of Script = codes "filter" ∷ codes "platform" ∷ []
names_of _ = []

-- what a key's table is, what is before the key in its path, which is of no other table, and the key
pub record KeyRow : Type 0 where
  pub kind : SectionKind
  pub prefix : Text
  pub key : Text

abbrev pub key_row : FoundKey → KeyRow
key_row k = record { kind = k.kind; prefix = string_bytes k.prefix; key = k.key.now }

abbrev pub key_rows : List FoundKey → List KeyRow
key_rows keys = map key_row keys

-- what is before a key of the section at a path
abbrev pub prefix_of : SectionKind → Text → Text
prefix_of File path = []
prefix_of _ path = path ++ codes "."

abbrev pub section_keys : SectionRow → List KeyRow
section_keys s = map (λ (own : Text). record { kind = s.kind; prefix = prefix_of s.kind s.path; key = own })
    (option_map_or keys_of (as_table s.value) [])

-- those of a file
abbrev pub found_keys : Data → List KeyRow
found_keys file = flat_map section_keys (sections_of file)

-- ---- the unknown ones

-- a table has the key that the row's is with a letter after it
abbrev pub is_renamed : List KeyRow → KeyRow → Bool
is_renamed rows row = list_any (λ other. bytes_eq other.prefix row.prefix && bytes_eq other.key (row.key ++ codes "_")) rows

-- The span is that of the key: with a letter after the key there, which has no such key, the file has it.
abbrev pub IsKeyPlace : Text → List KeyRow → KeyRow → SourceSpan → Type 0
IsKeyPlace text rows row s = (before : Text) × (after : Text) × (file : Data)
    × (text ≡ before ++ (row.key ++ after)) × (s ≡ span (length before) (length row.key)) × IsFalse (is_renamed rows row)
    × IsFile (before ++ (row.key ++ (codes "_" ++ after))) file × IsTrue (is_renamed (found_keys file) row)

-- what is said of a key that is meant for this name
abbrev pub IsUnknownKey : Text → List KeyRow → KeyRow → Text → UnknownKey → Type 0
IsUnknownKey text rows row name u = (string_bytes u.path ≡ row.prefix ++ key_text row.key) × (string_bytes u.key ≡ row.key)
    × (u.meant.now ≡ name) × IfSome u.span (IsKeyPlace text rows row)

-- what is found of a key: nothing, or that it is meant for a name that is read in its table
abbrev pub Judged : Text → List KeyRow → ℕ → KeyRow → List UnknownKey → Type 0
Judged text rows at row found = ((¬ ((name : Text) × IsMeant (names_of row.kind) row.key name)) × (found ≡ []))
    ⊎ ((name : Text) × (u : UnknownKey) × IsMeant (names_of row.kind) row.key name × (found ≡ u ∷ [])
    × IsUnknownKey text rows row name u)

-- what is found of these rows, of which the first has this position, in their order
abbrev pub Finds : {R F : Type 0} → (ℕ → R → List F → Type 0) → ℕ → List R → List F → Type 0
Finds Judges at [] found = found ≡ []
Finds {R} {F} Judges at (row ∷ rows) found = (front : List F) × (rest : List F) × (found ≡ front ++ rest)
    × Judges at row front × Finds Judges (at + 1) rows rest

-- these are the keys of a file that are not read and are near one that is
abbrev pub AreUnknownKeys : Text → List UnknownKey → Type 0
AreUnknownKeys text found = (file : Data) × IsFile text file × Finds (Judged text (found_keys file)) 0 (found_keys file) found
