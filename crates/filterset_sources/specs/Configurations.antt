-- What nextest's configuration says of filtersets and groups.
use Rattle.std.specs.Prelude.{◌≡◌, ◌+◌, ◌++◌, ◌==◌, ℕ, List, [], ◌∷◌, None, Some, Result, Ok, Err, codes, count_by, map, option_map, string_bytes, take}
use Rattle.std.specs.Option.{option_map_or}
use Rattle.toml.specs.Data.{Data, table, Members, no_members, member, as_str, get}
use Rattle.toml.specs.{Errors.span_start, Parse.parse_document, View.view}
use Rattle.filterset_json.specs.{Places.Place, Shape.Text}
use Rattle.filterset_sources.specs.Sections.{SectionRow, below, members_under, sections_of, wrong_shape}
use Rattle.filterset_sources.specs.declared.configuration.Configuration.{Configuration}
use Rattle.filterset_sources.specs.declared.configuration.ConfiguredFilterset.{ConfiguredFilterset}
use Rattle.filterset_sources.specs.declared.configuration.FilterKey.{FilterKey}
use Rattle.filterset_sources.specs.declared.configuration.FilterKey.TheVariants.{DefaultFilter, Filter}
use Rattle.filterset_sources.specs.declared.refusal.SourceRefusal.{SourceRefusal}
use Rattle.filterset_sources.specs.declared.refusal.SourceRefusal.TheVariants.{NotToml, OutOfMemory, WrongValue}
use Rattle.filterset_sources.specs.declared.sections.SectionKind.{SectionKind}
use Rattle.filterset_sources.specs.declared.sections.SectionKind.TheVariants.{Profile, Override, Script}

abbrev pub key_name : FilterKey → Text
key_name DefaultFilter = codes "default-filter"
key_name Filter = codes "filter"

-- where a filterset is, under which key, and its text
pub record ConfiguredRow : Type 0 where
  pub path : Text
  pub key : FilterKey
  pub text : Text

abbrev pub configured_row : ConfiguredFilterset → ConfiguredRow
configured_row f = record { path = string_bytes f.path; key = f.key; text = string_bytes f.text }

abbrev pub configured_rows : List ConfiguredFilterset → List ConfiguredRow
configured_rows filtersets = map configured_row filtersets

-- what is read, which is filtersets or the first wrong place, and then what is read next
abbrev pub followed_by : Result (List ConfiguredRow) Place → Result (List ConfiguredRow) Place → Result (List ConfiguredRow) Place
followed_by (Ok rows) (Ok more) = Ok (rows ++ more)
followed_by (Ok rows) (Err place) = Err place
followed_by (Err place) next = Err place

-- the filterset under a key of the value at a path, if there is one
abbrev pub filter_under : Text → FilterKey → Data → Result (List ConfiguredRow) Place
filter_under path key d = option_map_or (λ e.
    option_map_or (λ found. Ok (record { path = below path (key_name key); key = key; text = found } ∷ []))
    (as_str e) (Err (below path (key_name key), codes "a text"))) (get (key_name key) d) (Ok [])

-- the filtersets of a section
abbrev pub own_filters : SectionKind → Text → Data → Result (List ConfiguredRow) Place
own_filters (Profile at) path d = filter_under path DefaultFilter d
own_filters Override path d = followed_by (filter_under path DefaultFilter d) (filter_under path Filter d)
own_filters Script path d = filter_under path Filter d
own_filters _ path d = Ok []

abbrev pub section_filters : SectionRow → Result (List ConfiguredRow) Place
section_filters s = option_map_or (λ expected. Err (s.path, expected)) (wrong_shape s.kind s.value)
    (own_filters s.kind s.path s.value)

abbrev pub all_filters : List SectionRow → Result (List ConfiguredRow) Place
all_filters [] = Ok []
all_filters (s ∷ ss) = followed_by (section_filters s) (all_filters ss)

-- the keys, in their order
abbrev pub keys_of : Members → List Text
keys_of no_members = []
keys_of (member key d ms) = key ∷ keys_of ms

-- the text is TOML with this data
abbrev pub IsFile : Text → Data → Type 0
IsFile text file = ∥ option_map table (parse_document text) ≡ Some file ∥₁

-- the text is a file that has these filtersets, in its order but with profiles by their names, and these groups
abbrev pub IsConfiguration : Text → Configuration → Type 0
IsConfiguration text c = IsFile text (view c.file)
    × (all_filters (sections_of (view c.file)) ≡ Ok (configured_rows c.filtersets.items))
    × (map (λ s. string_bytes s) c.groups.items ≡ keys_of (members_under (codes "test-groups") (view c.file)))

-- the line of an offset, from 1
abbrev pub line_at : Text → ℕ → ℕ
line_at text at = count_by (λ b. b == 10) (take at text) + 1

-- the text is no TOML, from this line on; or it is out of memory
abbrev pub RefusesToml : Text → SourceRefusal → Type 0
RefusesToml text (NotToml error line) = (parse_document text ≡ None) × (line ≡ line_at text (span_start error))
RefusesToml text (OutOfMemory error) = Unit {0}
RefusesToml text refusal = ⊥

-- the same; or the text is no configuration, and this is its first wrong place
abbrev pub RefusesConfiguration : Text → SourceRefusal → Type 0
RefusesConfiguration text (WrongValue wrong) = (file : Data) × IsFile text file
    × (all_filters (sections_of file) ≡ Err (string_bytes wrong.path, wrong.expected.now))
RefusesConfiguration text refusal = RefusesToml text refusal
