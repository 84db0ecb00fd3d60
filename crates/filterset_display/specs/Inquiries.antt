-- Requests about documents.
use Rattle.std.specs.Prelude.{Option, None, Some, codes, option_map, if◌then◌else◌}
use Rattle.std.specs.Str.{bytes_eq}
use Rattle.serde_json.specs.Data.{Data}
use Rattle.filterset_display.specs.{Positions.Text, Values.position_at, Values.range_at}
use Rattle.filterset_display.specs.declared.inquiry.Inquiry.{Inquiry}
use Rattle.filterset_display.specs.declared.inquiry.Inquiry.TheVariants as inquiries

-- what a request of this method asks about its document: nothing if it has wrong parameters; and if no such method is known
abbrev pub inquiry_in : Text → Data → Option (Option Inquiry)
inquiry_in method d =
    if bytes_eq method (codes "textDocument/hover")
    then Some (option_map (λ position. inquiries.Hover position) (position_at (codes "/params/position") d))
    else if bytes_eq method (codes "textDocument/completion")
    then Some (option_map (λ position. inquiries.Completion position) (position_at (codes "/params/position") d))
    else if bytes_eq method (codes "textDocument/codeAction")
    then Some (option_map (λ range. inquiries.CodeActions range) (range_at (codes "/params/range") d))
    else if bytes_eq method (codes "textDocument/formatting") then Some (Some inquiries.Formatting)
    else if bytes_eq method (codes "textDocument/foldingRange") then Some (Some inquiries.FoldingRanges)
    else if bytes_eq method (codes "textDocument/semanticTokens/full") then Some (Some inquiries.SemanticTokens)
    else if bytes_eq method (codes "textDocument/documentSymbol") then Some (Some inquiries.Symbols)
    else None
