-- Which texts commands check, format or ask, as rows: where a text comes from, what it has to be, and the text.
use Rattle.std.specs.Prelude.{◌≡◌, ℕ, ◌+◌, ◌-◌, ◌==◌, ◌&&◌, ◌||◌, ◌++◌, Bool, false, true, not, List, [], ◌∷◌, None, Option, Some, codes, decimal, drop, filter_map, if◌then◌else◌, length, map, option_map, string_bytes, sum_by, take}
use Rattle.std.specs.{Borrow.Bor, List.enumerate_from, Str.bytes_eq, Str.trim_start, Str.Lines.lines}
use Rattle.filterset_display.specs.{Columns.Text, Lines.pieces, declared.source.Source.Source}
use Rattle.filterset_faults.specs.declared.kind.FiltersetKind.{FiltersetKind}
use Rattle.filterset_faults.specs.declared.kind.FiltersetKind.TheVariants as kinds
use Rattle.filterset_sources.specs.declared.configuration.{ConfiguredFilterset.ConfiguredFilterset, FilterKey.FilterKey}
use Rattle.filterset_sources.specs.declared.configuration.FilterKey.TheVariants as keys
use Rattle.filterset_configuration.specs.{Places.place_at, declared.places.Places.Places}
use Rattle.filterset_entries.specs.Checked.{TextRow, row_of, text_row}
use Rattle.filterset_entries.specs.Placements.{Placement, line, literal}
use Rattle.filterset_entries.specs.declared.{entries.ConfiguredTexts.ConfiguredTexts, question.Question.Question}
use Rattle.filterset_entries.specs.declared.setting.{OverrideEntry.OverrideEntry, Setting.Setting}
use Rattle.filterset_entries.specs.declared.question.Question.TheVariants as questions

-- the row of a text that is called by a word and a number, as `argument 2`
abbrev pub numbered_row : Text → FiltersetKind → ℕ → Text → TextRow
numbered_row word kind number text = row_of (word ++ (codes " " ++ decimal number)) kind text

-- the rows of texts, which are called by the word and numbered from 1 in their order
abbrev pub numbered_rows : Text → FiltersetKind → List Text → List TextRow
numbered_rows word kind texts =
    map (λ (numbered : ℕ × Text). numbered_row word kind numbered.0 numbered.1) (enumerate_from 1 texts)

-- where a line begins: after this many line feeds
abbrev pub line_start : Text → ℕ → ℕ
line_start text feeds = sum_by (λ piece. length piece + 1) (take feeds (pieces text))

-- the line without the byte-order mark that it may begin with
abbrev pub unmarked : Text → Text
unmarked text = if bytes_eq (take 3 text) (239 ∷ 187 ∷ 191 ∷ []) then drop 3 text else text

-- the line is a comment, or blank, and blank lines are not kept
abbrev pub is_passed_over : Bool → Text → Bool
is_passed_over keeps_blank text = bytes_eq (take 1 text) (codes "#") || (not keeps_blank && length (trim_start text) == 0)

-- the row of a text that ends at this offset of a file
abbrev pub stretch_row : Bor Source → FiltersetKind → ℕ → ℕ → Text → TextRow
stretch_row file kind number to text = record (numbered_row (codes "line") kind number text)
    { place = Some (record { file = file; spot = line (record { from = to - length text; to = to }) }) }

-- the row of a line that ends at this offset, if it is not passed over
abbrev pub listed_row : Bool → Bor Source → FiltersetKind → ℕ → ℕ → Text → Option TextRow
listed_row keeps_blank file kind number to text =
    if is_passed_over keeps_blank (unmarked text) then None else Some (stretch_row file kind number to (unmarked text))

-- the same, by how many lines come before it
abbrev pub line_row : Bool → Bor Source → FiltersetKind → ℕ × Text → Option TextRow
line_row keeps_blank file kind numbered =
    listed_row keeps_blank file kind (numbered.0 + 1) (line_start file.now.text.now numbered.0 + length numbered.1) numbered.1

-- the rows of the lines of a file that are not passed over, which are called `line` and numbered from 1
abbrev pub line_rows : Bool → Bor Source → FiltersetKind → List TextRow
line_rows keeps_blank file kind = filter_map (line_row keeps_blank file kind) (enumerate_from 0 (lines file.now.text.now))

-- what a filterset under a key of a configuration is
abbrev pub kind_under : FilterKey → FiltersetKind
kind_under keys.DefaultFilter = kinds.DefaultFilter
kind_under keys.Filter = kinds.OverrideFilter

-- a filterset of a configuration is called by its path
abbrev pub file_row : Option Placement → ConfiguredFilterset → TextRow
file_row place filterset =
    record (row_of (string_bytes filterset.path) (kind_under filterset.key) (string_bytes filterset.text)) { place = place }

-- where the filterset at this position is in the file, if it was found there
abbrev pub placement_at : ConfiguredTexts → ℕ → Option Placement
placement_at texts at =
    option_map (λ p. record { file = texts.file; spot = literal p }) (place_at texts.places.now.places.items at)

-- the filtersets of a file with these bytes, and their places
abbrev pub AreTextsOf : Text → Text → List ConfiguredFilterset → Places → ConfiguredTexts → Type 0
AreTextsOf name bytes filtersets places texts =
    (texts.file.now.origin.now ≡ name) × (texts.file.now.text.now ≡ bytes)
    × (texts.filtersets.now ≡ filtersets) × (texts.places.now ≡ places)

abbrev pub placed_row : ConfiguredTexts → ℕ × ConfiguredFilterset → TextRow
placed_row texts numbered = file_row (placement_at texts numbered.0) numbered.1

-- the rows of a configuration's filtersets
abbrev pub rows_in : ConfiguredTexts → List TextRow
rows_in texts = map (placed_row texts) (enumerate_from 0 texts.filtersets.now)

-- the text of an override's filter, if it has one
abbrev pub filter_row : OverrideEntry → Option TextRow
filter_row entry = option_map text_row entry.filter

-- the texts that are compiled before those of a question: the default filter, and the filter of each override that has
-- one, whatever the override sets
abbrev pub setting_rows : Setting → List TextRow
setting_rows setting = text_row setting.default.now ∷ filter_map filter_row setting.overrides.now

-- filtersets of a question have to be ones of tests
abbrev pub test_row : Text → Text → TextRow
test_row origin text = row_of origin kinds.Test text

abbrev pub default_row : Text → TextRow
default_row text = row_of (codes "--default-filter") kinds.DefaultFilter text

abbrev pub given_row : Option (Bor Text) → Option TextRow
given_row given = option_map (λ t. default_row t.now) given

-- the rows of the filtersets of a question: those of a union are numbered, and two that are compared are `A` and `B`
abbrev pub question_rows : Question → List TextRow
question_rows (questions.List filters ignores_default) =
    numbered_rows (codes "-E") kinds.Test (map (λ t. t.now) filters.now)
question_rows (questions.Compare first second has_names) =
    test_row (codes "A") first.now ∷ test_row (codes "B") second.now ∷ []
question_rows (questions.Overrides filters) = numbered_rows (codes "-E") kinds.Test (map (λ t. t.now) filters.now)
