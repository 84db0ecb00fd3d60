-- What documents hold, and whether a document holds the same as another but with other texts.
use Rattle.std.specs.Prelude.{◌≡◌, ◌⊎◌, Bool, false, true, List, [], ◌∷◌, MatchBool, None, Option, Some, is_none, map, option_map, string_bytes, unwrap_or}
use Rattle.std.specs.{Bool.Decides, Borrow.Bor}
use Rattle.filterset_entries.specs.{Checked.TextRow, Checked.text_row, Entries.line_rows, Entries.rows_in}
use Rattle.filterset_entries.specs.declared.entries.ConfiguredTexts.{ConfiguredTexts}
use Rattle.filterset_display.specs.declared.source.Source.{Source}
use Rattle.filterset_display.specs.Positions.{Text}
use Rattle.filterset_faults.specs.declared.kind.FiltersetKind.TheVariants as kinds
use Rattle.filterset_sources.specs.Configurations.{IsConfiguration, RefusesConfiguration}
use Rattle.filterset_sources.specs.declared.configuration.Configuration.{Configuration}
use Rattle.filterset_sources.specs.declared.refusal.SourceRefusal.{SourceRefusal}
use Rattle.filterset_documents.specs.Filtersets.{AreTexts, AreTextsOf, SaysWhy}
use Rattle.filterset_documents.specs.declared.content.{Rest.Rest, Content.Content, Filtersets.Filtersets}
use Rattle.filterset_documents.specs.declared.content.Filtersets.TheVariants.{Configured, Lines}

-- the filtersets of a document, and the names of the groups of a configuration
pub record ContentRow : Type 0 where
  pub groups : Option (List Text)
  pub rows : List TextRow

-- the names of the groups of a configuration
abbrev pub names_in : Option Rest → Option (List Text)
names_in rest = option_map (λ b. map (λ s. string_bytes s) b.groups.items) rest

abbrev pub content_row : Content → ContentRow
content_row c = record {
  groups = option_map (λ g. map (λ s. string_bytes s) g.now) c.groups;
  rows = map text_row c.entries.now;
}

-- the lines of a text, each a filterset of tests
abbrev pub IsOfLines : Text → ContentRow → Type 0
IsOfLines text content = (file : Bor Source) × (file.now.text.now ≡ text) × (content.groups ≡ None)
    × (content.rows ≡ line_rows true file kinds.Test)

-- the filtersets and groups of a configuration with this text
abbrev pub IsOfConfiguration : Text → ContentRow → Type 0
IsOfConfiguration text content = (configuration : Configuration) × (texts : ConfiguredTexts)
    × IsConfiguration text configuration × AreTextsOf text configuration texts
    × (content.groups ≡ Some (map (λ s. string_bytes s) configuration.groups.items)) × (content.rows ≡ rows_in texts)

-- what a document with this text holds: a list, or nextest's configuration
abbrev pub Holds : Bool → Text → ContentRow → Type 0
Holds is_list text content = MatchBool is_list (IsOfLines text content) (IsOfConfiguration text content)

-- it holds nothing, since it has to be a configuration and is none
abbrev pub HoldsNothing : Bool → Text → Type 0
HoldsNothing is_list text =
    (is_list ≡ false) × ((refusal : SourceRefusal) × RefusesConfiguration text refusal × SaysWhy refusal)

-- ---- what only contracts of functions that read documents cite

abbrev pub AreRowsOf : Filtersets → List TextRow → Type 0
AreRowsOf (Lines file) rows = (listed : Bor Source) × (listed.now ≡ file) × (rows ≡ line_rows true listed kinds.Test)
AreRowsOf (Configured file filtersets places) rows =
    (texts : ConfiguredTexts) × AreTexts file filtersets.items places texts × (rows ≡ rows_in texts)
