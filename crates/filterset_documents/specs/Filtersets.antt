-- The filtersets of documents.
use Rattle.std.specs.Prelude.{◌≡◌, ◌⊎◌, ◌-◌, ◌&&◌, ℕ, Bool, List, Option, None, Some, codes, false, nat_le}
use Rattle.std.specs.Str.{bytes_eq}
use Rattle.filterset_entries.specs.Checked.{TextRow}
use Rattle.filterset_entries.specs.Placements.{Placement, TextSpot, line, literal}
use Rattle.filterset_entries.specs.declared.entries.ConfiguredTexts.{ConfiguredTexts}
use Rattle.filterset_display.specs.declared.source.Source.{Source}
use Rattle.filterset_display.specs.Positions.{Text}
use Rattle.filterset_faults.specs.{Span.length_of, Span.offset_of, Span.span, declared.span.SourceSpan.SourceSpan}
use Rattle.filterset_grammar.specs.Tree.{Tree}
use Rattle.filterset_language.specs.{Views.tree_of, declared.tree.ParsedExpr.ParsedExpr}
use Rattle.filterset_rewriting.specs.Reading.{IsRead, IsUnread}
use Rattle.filterset_configuration.specs.Places.{ArePlaces}
use Rattle.filterset_configuration.specs.declared.{places.Places.Places, stretch.Stretch.Stretch}
use Rattle.filterset_sources.specs.{Configurations.configured_rows, declared.configuration.Configuration.Configuration}
use Rattle.filterset_sources.specs.declared.configuration.ConfiguredFilterset.{ConfiguredFilterset}
use Rattle.filterset_sources.specs.declared.refusal.SourceRefusal.{SourceRefusal}
use Rattle.filterset_sources.specs.declared.refusal.SourceRefusal.TheVariants.{NotToml, WrongValue}

-- a document in this language has a filterset a line; any other is nextest's configuration
abbrev pub is_list : Text → Bool
is_list language = bytes_eq language (codes "filterset")

-- these are the filtersets of a file, with their places in it
abbrev pub AreTexts : Source → List ConfiguredFilterset → Places → ConfiguredTexts → Type 0
AreTexts file filtersets places texts =
    (texts.file.now ≡ file) × (texts.filtersets.now ≡ filtersets) × (texts.places.now ≡ places)

-- the filtersets of a configuration that was read from this text, with their places in it
abbrev pub AreTextsOf : Text → Configuration → ConfiguredTexts → Type 0
AreTextsOf text configuration texts =
    (texts.file.now.text.now ≡ text) × (texts.filtersets.now ≡ configuration.filtersets.items)
    × ArePlaces text (configured_rows configuration.filtersets.items) texts.places.now.places.items

-- the refusal says what is wrong with a configuration
abbrev pub SaysWhy : SourceRefusal → Type 0
SaysWhy (NotToml error number) = Unit {0}
SaysWhy (WrongValue wrong) = Unit {0}
SaysWhy refusal = ⊥

-- the string that is read as a filterset, with its delimiters, or the line
abbrev pub stretch_at : TextSpot → Stretch
stretch_at (literal place) = place.literal
stretch_at (line stretch) = stretch

abbrev pub stretch_span : Stretch → SourceSpan
stretch_span stretch = span stretch.from (stretch.to - stretch.from)

-- where a filterset is; the start of the text if that is not known
abbrev pub place_span : Option Placement → SourceSpan
place_span None = span 0 0
place_span (Some at) = stretch_span (stretch_at at.spot)

-- ---- offsets

-- the offset is in the span, or at its end, since positions are between characters
abbrev pub is_in : SourceSpan → ℕ → Bool
is_in span offset = nat_le (offset_of span) offset && nat_le (offset - offset_of span) (length_of span)

-- the string that is read as a filterset at this place, or its line, holds this offset of the file
abbrev pub is_placed_at : Option Placement → ℕ → Bool
is_placed_at None offset = false
is_placed_at (Some at) offset = is_in (stretch_span (stretch_at at.spot)) offset

abbrev pub is_row_at : ℕ → TextRow → Bool
is_row_at offset row = is_placed_at row.place offset

-- ---- trees

-- what is made of the tree that the text reads as, or this if it reads as none
abbrev pub OfTree : {A : Type 0} → Text → (Tree SourceSpan → A → Type 0) → A → A → Type 0
OfTree text Is none made = ((e : Tree SourceSpan) × IsRead text e × Is e made) ⊎ (IsUnread text × (made ≡ none))

-- the text reads as the tree, or as none
abbrev pub IsParsed : Text → Option (ParsedExpr SourceSpan) → Type 0
IsParsed text None = IsUnread text
IsParsed text (Some tree) = IsRead text (tree_of tree)
