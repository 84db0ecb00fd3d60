-- What the server shows of the predicate at a position.
use Rattle.std.specs.Prelude.{◌≡◌, ◌++◌, ℕ, Bool, List, MatchOption, Option, codes, find, false}
use Rattle.std.specs.Option.{option_map_or}
use Rattle.serde_json.specs.Data.{Data, string, object, member, no_members, null}
use Rattle.filterset_entries.specs.{Checked.TextRow, Placements.Placement, Placements.file_part}
use Rattle.filterset_display.specs.declared.source.FileSpan.{FileSpan}
use Rattle.filterset_display.specs.Positions.{IsOffset, Text}
use Rattle.filterset_display.specs.declared.positions.{Encoding.Encoding, Position.Position}
use Rattle.filterset_faults.specs.declared.span.SourceSpan.{SourceSpan}
use Rattle.filterset_grammar.specs.Tree.{Leaf, tree_leaves}
use Rattle.filterset_language.specs.Faults.{leaf_span}
use Rattle.filterset_documents.specs.{Filtersets.OfTree, Filtersets.is_in, Filtersets.is_row_at, Ranges.IsRange}
use Rattle.filterset_offers.specs.Workspaces.{WorkspaceRow}
use Rattle.filterset_offers.specs.{Matches.SaysMatched, Words.leaf_text}

-- ---- predicates

-- a text in Markdown about a range
abbrev pub hover_data : Text → Data → Data
hover_data text range =
    object (member (codes "contents") (object (member (codes "kind") (string (codes "markdown"))
    (member (codes "value") (string text) no_members))) (member (codes "range") range no_members))

-- the span of the file that a predicate's span in a text at this place was read from
abbrev pub leaf_part : Option Placement → Leaf SourceSpan → Option FileSpan
leaf_part place leaf = file_part place (leaf_span leaf)

-- the predicate has a span, which holds this offset of the file
abbrev pub is_leaf_at : Option Placement → ℕ → Leaf SourceSpan → Bool
is_leaf_at place offset leaf = option_map_or (λ part. is_in part.span offset) (leaf_part place leaf) false

-- the hover of a predicate: what it means, and what it matches in the workspace, for the range of its span in the file
abbrev pub HoversLeaf : Option WorkspaceRow → Encoding → Text → Option Placement → Leaf SourceSpan → Data → Type 0
HoversLeaf w encoding text place leaf d = MatchOption (leaf_part place leaf) (d ≡ null)
    (λ part. (range : Data) × (matched : Text) × IsRange encoding text part.span range × SaysMatched w leaf matched
    × (d ≡ hover_data (leaf_text leaf ++ matched) range))

-- ---- filtersets

-- the hover of a filterset: that of the first predicate at this offset of the file, of the tree that its text reads as, or `null`
abbrev pub HoversRow : Option WorkspaceRow → Encoding → Text → ℕ → TextRow → Data → Type 0
HoversRow w encoding text offset row = OfTree row.text (λ e d.
    MatchOption (find (is_leaf_at row.place offset) (tree_leaves e)) (d ≡ null) (λ leaf. HoversLeaf w encoding text row.place leaf d)) null

-- the hover of the first filterset that is at the position, or `null` without one
abbrev pub HoversRows : Option WorkspaceRow → Encoding → Text → Position → List TextRow → Data → Type 0
HoversRows w encoding text position rows d = (offset : ℕ) × IsOffset encoding text position offset
    × MatchOption (find (is_row_at offset) rows) (d ≡ null) (λ row. HoversRow w encoding text offset row d)
