-- What is offered at a position of a document.
use Rattle.std.specs.Prelude.{◌≡◌, ◌⊎◌, ◌++◌, ℕ, Bool, true, false, List, MatchBool, MatchOption, Option, codes, find}
use Rattle.std.specs.{List.AllZip, Str.IsCharBoundary}
use Rattle.serde_json.specs.Data.{Data, array, boolean, member, no_members, null, number, object, string, unsigned}
use Rattle.serde_json.specs.View.{items_of}
use Rattle.filterset_entries.specs.{Checked.TextRow, Placements.TextSpot, Placements.span_in}
use Rattle.filterset_documents.specs.Ranges.{edit_data, IsRange}
use Rattle.filterset_documents.specs.Filtersets.{is_in, is_row_at}
use Rattle.filterset_display.specs.Positions.{IsOffset, Text}
use Rattle.filterset_display.specs.declared.positions.{Encoding.Encoding, Position.Position}
use Rattle.filterset_offers.specs.Workspaces.{WorkspaceRow}
use Rattle.filterset_offers.specs.Candidates.{Row, all_rows}
use Rattle.filterset_offers.specs.{Gaps.text_offset, Names.AreKnown, Names.may_lack}
use Rattle.filterset_offers.specs.Standing.{AreOffered, GapRows, gap_for, gaps_at, inserted}

-- ---- items

-- what is offered, and the edit that puts it where it stands
abbrev pub item_data : Row → Data → Data
item_data row edit =
    object (member (codes "detail") (string row.detail) (member (codes "kind") (number (unsigned row.kind))
    (member (codes "label") (string row.label) (member (codes "textEdit") edit no_members))))

-- The item of a candidate for a filterset at this spot: the edit replaces what the word is read from.
abbrev pub IsItem : Encoding → Text → TextSpot → GapRows → Row → Data → Type 0
IsItem encoding text spot gaps row d =
    let gap = gap_for row gaps in
    (range : Data) × IsRange encoding text (span_in spot gap.at) range × (d ≡ item_data row (edit_data (inserted row gap) range))

-- a list of items, which may lack some
abbrev pub list_data : Bool → List Data → Data
list_data true items = object (member (codes "isIncomplete") (boolean true) (member (codes "items") (array (items_of items)) no_members))
list_data false items = array (items_of items)

-- ---- filtersets

-- The items of the candidates that are offered in place of words of a filterset, in their order: those that are always known, and
-- the names of the workspace, if there is one.
abbrev pub CompletesGaps : Option WorkspaceRow → Encoding → Text → TextSpot → TextRow → GapRows → Data → Type 0
CompletesGaps w encoding text spot row gaps d =
    (known : List Row) × (found : List Row) × (items : List Data) × AreKnown w gaps.name.typed known
    × AreOffered row.kind gaps (all_rows ++ known) found × AllZip (IsItem encoding text spot gaps) found items
    × (d ≡ list_data (may_lack known) items)

-- What is offered in place of words of a filterset at this spot, at an offset of the file: nothing, if the word there is not read
-- from what is at the offset, as before the string's delimiter.
abbrev pub CompletesIn : Option WorkspaceRow → Encoding → Text → ℕ → TextSpot → TextRow → GapRows → Data → Type 0
CompletesIn w encoding text offset spot row gaps d =
    MatchBool (is_in (span_in spot gaps.word.at) offset) (CompletesGaps w encoding text spot row gaps d) (d ≡ null)

-- the same at an offset of the filterset: nothing, if that is not between characters
abbrev pub CompletesText : Option WorkspaceRow → Encoding → Text → ℕ → TextSpot → TextRow → ℕ → Data → Type 0
CompletesText w encoding text offset spot row at d =
    ((IsCharBoundary row.text at → ⊥) × (d ≡ null))
    ⊎ (IsCharBoundary row.text at × CompletesIn w encoding text offset spot row (gaps_at row.text at) d)

abbrev pub CompletesAt : Option WorkspaceRow → Encoding → Text → ℕ → TextSpot → TextRow → Data → Type 0
CompletesAt w encoding text offset spot row d = CompletesText w encoding text offset spot row (text_offset spot offset) d

abbrev pub CompletesRow : Option WorkspaceRow → Encoding → Text → ℕ → TextRow → Data → Type 0
CompletesRow w encoding text offset row d =
    MatchOption row.place (d ≡ null) (λ at. CompletesAt w encoding text offset at.spot row d)

-- what is offered in the first filterset that is at the position, or `null` without one
abbrev pub CompletesRows : Option WorkspaceRow → Encoding → Text → Position → List TextRow → Data → Type 0
CompletesRows w encoding text position rows d = (offset : ℕ) × IsOffset encoding text position offset
    × MatchOption (find (is_row_at offset) rows) (d ≡ null) (λ row. CompletesRow w encoding text offset row d)
