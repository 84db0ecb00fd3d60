-- What the server answers about documents.
use Rattle.std.specs.Prelude.{◌≡◌, ◌⊎◌, Option}
use Rattle.serde_json.specs.Data.{Data, null}
use Rattle.filterset_display.specs.{Documents.DocumentRow, Machine.Says, Positions.Text}
use Rattle.filterset_display.specs.declared.inquiry.Inquiry.{Inquiry}
use Rattle.filterset_display.specs.declared.inquiry.Inquiry.TheVariants.{CodeActions, Completion, FoldingRanges, Formatting, Hover, SemanticTokens, Symbols}
use Rattle.filterset_display.specs.declared.positions.Encoding.{Encoding}
use Rattle.filterset_server.specs.Actions.{ActsOn}
use Rattle.filterset_documents.specs.{Contents.ContentRow, Contents.Holds, Contents.HoldsNothing, Filtersets.is_list}
use Rattle.filterset_offers.specs.{Completion.CompletesRows, Hover.HoversRows, Unmatched.DiagnosesIn, Workspaces.WorkspaceRow}
use Rattle.filterset_server.specs.{Folding.AreFolds, Formatting.FormatsContent, Highlights.HighlightsRows, Symbols.AreSymbols}

-- the result of a request about a document, which has this address and content, where a workspace may be known
abbrev pub RespondsContent : Option WorkspaceRow → Encoding → Text → Text → Inquiry → ContentRow → Data → Type 0
RespondsContent w encoding uri text Symbols content d = AreSymbols encoding text content.rows d
RespondsContent w encoding uri text (Hover position) content d = HoversRows w encoding text position content.rows d
RespondsContent w encoding uri text (Completion position) content d = CompletesRows w encoding text position content.rows d
RespondsContent w encoding uri text FoldingRanges content d = AreFolds encoding text content.rows d
RespondsContent w encoding uri text SemanticTokens content d = HighlightsRows encoding text content.rows d
RespondsContent w encoding uri text (CodeActions range) content d = ActsOn encoding uri text range content d
RespondsContent w encoding uri text Formatting content d = FormatsContent encoding text content d

-- the result of a request about a document, or `null` if it holds nothing
abbrev pub Responds : Option WorkspaceRow → Encoding → DocumentRow → Inquiry → Data → Type 0
Responds w encoding document inquiry d =
    ((content : ContentRow) × Holds (is_list document.language) document.text content
    × RespondsContent w encoding document.uri document.text inquiry content d)
    ⊎ (HoldsNothing (is_list document.language) document.text × (d ≡ null))

-- what the server says of documents, where a workspace may be known
abbrev pub says : Option WorkspaceRow → Says
says w = record { has = DiagnosesIn w; gives = Responds w }
