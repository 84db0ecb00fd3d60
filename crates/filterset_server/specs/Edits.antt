-- Changes of texts.
use Rattle.std.specs.Prelude.{◌≡◌, ◌≤◌, ◌-◌, ◌++◌, ◌==◌, ◌||◌, ℕ, All, Bool, Contains, IsSomeAnd, List, [], ◌∷◌, chars, codes, drop, encode_utf8, map, string_bytes, take, if◌then◌else◌}
use Rattle.std.specs.{List.AllZip, List.flat_map, List.list_any, Option.option_map_or}
use Rattle.std.specs.{List.Sorted.IsNonDecreasingBy, List.Sorted.IsPermutation, Str.IsCharBoundary, Str.bytes_eq}
use Rattle.serde_json.specs.Data.{Data, array}
use Rattle.serde_json.specs.View.{items_of}
use Rattle.filterset_entries.specs.{Checked.TextRow, Placements.TextSpot, Placements.line, Placements.literal}
use Rattle.filterset_display.specs.{Positions.Text, declared.positions.Encoding.Encoding, declared.positions.Range.Range}
use Rattle.filterset_configuration.specs.{Numbers.AreApart, declared.stretch.Stretch.Stretch}
use Rattle.filterset_documents.specs.Filtersets.{stretch_at, stretch_span}
use Rattle.filterset_documents.specs.Ranges.{IsRangeOf, edit_data, range_data}
use Rattle.filterset_server.specs.declared.edits.Edit.{Edit}

-- this text in place of a stretch of another
pub record EditRow : Type 0 where
  pub at : Stretch
  pub text : Text

abbrev pub edit_row : Edit → EditRow
edit_row edit = record { at = edit.at; text = string_bytes edit.text }

-- the edits follow each other, from the start of the text on
abbrev pub AreInOrder : List EditRow → Type 0
AreInOrder edits = AreApart 0 (map (λ e. e.at) edits)

-- the edit begins and ends between characters of a text
abbrev pub IsBetween : Text → EditRow → Type 0
IsBetween text edit = IsCharBoundary text edit.at.from × IsCharBoundary text edit.at.to

-- the edits follow each other, and each begins and ends between characters of the text
abbrev pub AreEditsOf : Text → List EditRow → Type 0
AreEditsOf text edits = AreInOrder edits × All (IsBetween text) edits

-- the stretch begins and ends between characters of the rest of a text from the offset `at` on
abbrev pub IsWithin : ℕ → Text → Stretch → Type 0
IsWithin at rest s =
    (at ≤ s.from) × (s.from ≤ s.to) × IsCharBoundary rest (s.from - at) × IsCharBoundary rest (s.to - at)

-- the rest of a text from the offset `at` on, with edits
abbrev pub edited_from : ℕ → Text → List EditRow → Text
edited_from at rest [] = rest
edited_from at rest (e ∷ es) =
    take (e.at.from - at) rest
    ++ (e.text ++ edited_from e.at.to (drop (e.at.to - e.at.from) (drop (e.at.from - at) rest)) es)

-- a text with edits
abbrev pub edited : Text → List EditRow → Text
edited text edits = edited_from 0 text edits

-- ---- strings of TOML

-- what a character of a string between quotation marks is written as
abbrev pub basic_char : ℕ → Text
basic_char c =
    if c == 34 then codes "\\\"" else if c == 92 then codes "\\\\" else if c == 10 then codes "\\n" else encode_utf8 c

-- a text as a string of TOML: between quotation marks with escapes, or as it is between apostrophes
abbrev pub quoted : Bool → Text → Text
quoted is_basic text =
    if is_basic then codes "\"" ++ (flat_map basic_char (chars text) ++ codes "\"") else codes "'" ++ (text ++ codes "'")

-- a string between apostrophes can't have an apostrophe or a line feed
abbrev pub needs_escapes : Text → Bool
needs_escapes text = list_any (λ b. b == 39) text || list_any (λ b. b == 10) text

-- what is written where a filterset is that gets a text: a string, between apostrophes if it can be, or a line
abbrev pub written_at : TextSpot → Text → Text
written_at (literal place) text = quoted (needs_escapes text) text
written_at (line stretch) text = text

-- ---- texts of filtersets

-- the edit by which a filterset gets a text, if it is found and has another
abbrev pub row_edits : TextRow → Text → List EditRow
row_edits row new = option_map_or (λ at. if bytes_eq row.text new then []
    else record { at = stretch_at at.spot; text = written_at at.spot new } ∷ []) row.place []

-- the edits by which filtersets get these texts, one after the other
abbrev pub rewrites : List TextRow → List Text → List EditRow
rewrites (row ∷ rows) (new ∷ texts) = row_edits row new ++ rewrites rows texts
rewrites rows texts = []

-- the same in the order of the file
abbrev pub AreRewrites : List TextRow → List Text → List EditRow → Type 0
AreRewrites rows texts edits =
    IsPermutation (rewrites rows texts) edits × IsNonDecreasingBy (λ e. e.at.from) edits

-- ---- edits of documents

-- the edit replaces the string that is read as one of the filtersets, or the line
abbrev pub ReplacesOne : List TextRow → EditRow → Type 0
ReplacesOne rows edit =
    (row : TextRow) × Contains rows row × IsSomeAnd row.place (λ at. edit.at ≡ stretch_at at.spot)

abbrev pub IsEdit : Encoding → Text → EditRow → Data → Type 0
IsEdit encoding text edit d =
    (range : Range) × IsRangeOf encoding text (stretch_span edit.at) range × (d ≡ edit_data edit.text (range_data range))

-- the edits replace filtersets of the document and nothing else, and the value has them
abbrev pub AreEdits : Encoding → Text → List TextRow → List EditRow → Data → Type 0
AreEdits encoding text rows edits d =
    (values : List Data) × AreInOrder edits × All (ReplacesOne rows) edits × AllZip (IsEdit encoding text) edits values
    × (d ≡ array (items_of values))
