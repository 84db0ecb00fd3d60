-- How the filtersets of a document are formatted.
use Rattle.std.specs.Prelude.{◌≡◌, ◌⊎◌, Bool, List, MatchBool, MatchOption}
use Rattle.std.specs.List.{AllZip}
use Rattle.serde_json.specs.Data.{Data, null}
use Rattle.filterset_entries.specs.Checked.{TextRow}
use Rattle.filterset_display.specs.{Positions.Text, declared.positions.Encoding.Encoding}
use Rattle.filterset_grammar.specs.Printing.{printed}
use Rattle.filterset_documents.specs.Filtersets.{OfTree}
use Rattle.filterset_server.specs.Becoming.{Becomes}
use Rattle.filterset_documents.specs.Contents.{ContentRow}
use Rattle.filterset_server.specs.Edits.{AreEdits, AreEditsOf, AreRewrites, EditRow, edited}

-- the text that a filterset gets: if it is found in the document, its own as it prints
abbrev pub IsFormatted : TextRow → Text → Type 0
IsFormatted row new =
    MatchOption row.place (new ≡ row.text) (λ _. OfTree row.text (λ e text. text ≡ printed e) row.text new)

-- The edits by which the filtersets of a document get these texts. There are none if they can't be made, or if the document would
-- not hold the same with them, but for the texts.
abbrev pub RewritesContent : Encoding → Text → ContentRow → List Text → Data → Type 0
RewritesContent encoding text content texts d = (edits : List EditRow) × AreRewrites content.rows texts edits
    × (((¬ AreEditsOf text edits) × (d ≡ null)) ⊎ ((kept : Bool) × AreEditsOf text edits
    × Becomes content texts (edited text edits) kept × MatchBool kept (AreEdits encoding text content.rows edits d) (d ≡ null)))

-- the same of the texts that they get if they are formatted
abbrev pub FormatsContent : Encoding → Text → ContentRow → Data → Type 0
FormatsContent encoding text content d =
    (texts : List Text) × AllZip IsFormatted content.rows texts × RewritesContent encoding text content texts d
