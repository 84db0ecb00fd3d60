-- The tokens of a document, as the protocol has them.
use Rattle.std.specs.Prelude.{◌≡◌, ◌-◌, ◌++◌, ◌==◌, ◌&&◌, ℕ, List, [], ◌∷◌, MatchOption, Option, Some, codes, nat_lt, if◌then◌else◌}
use Rattle.std.specs.List.Sorted.{IsNonDecreasingBy, IsPermutation}
use Rattle.serde_json.specs.Data.{Data, array, number, unsigned, object, member, no_members}
use Rattle.serde_json.specs.View.{items_of}
use Rattle.filterset_entries.specs.{Checked.TextRow, Placements.Placement, Placements.file_part}
use Rattle.filterset_display.specs.Positions.{Text}
use Rattle.filterset_display.specs.declared.positions.{Encoding.Encoding, Position.Position, Range.Range}
use Rattle.filterset_faults.specs.Span.{offset_of}
use Rattle.filterset_documents.specs.{Filtersets.OfTree, Joins.Joins, Ranges.IsRangeOf}
use Rattle.filterset_rewriting.specs.Tokens.{AreTokens}
use Rattle.filterset_rewriting.specs.declared.tokens.{Token.Token, TokenKind.TokenKind}
use Rattle.filterset_rewriting.specs.declared.tokens.TokenKind.TheVariants.{EnumMember, Function, Keyword, Operator, Regexp, String}
use Rattle.filterset_server.specs.declared.highlighting.Mark.{Mark}

-- ---- places

-- what is shown of a token of a text at this place: the part of the file that it was read from, if that is in one line
abbrev pub TokenMarks : Encoding → Text → Option Placement → Token → List Mark → Type 0
TokenMarks encoding text place token marks = MatchOption (file_part place (Some token.span)) (marks ≡ [])
    (λ part. (range : Range) × IsRangeOf encoding text part.span range
    × (marks ≡ (if (range.start.line == range.end.line) && nat_lt range.start.character range.end.character
    then record { from = offset_of part.span; range = range; kind = token.kind } ∷ [] else [])))

-- what is shown of a filterset: its tokens, if it reads as a tree
abbrev pub RowMarks : Encoding → Text → TextRow → List Mark → Type 0
RowMarks encoding text row marks = (tokens : List Token) × OfTree row.text (AreTokens row.text) [] tokens
    × Joins (TokenMarks encoding text row.place) tokens marks

-- ---- the protocol

-- the number of a kind in the list of types that the server announces
abbrev pub kind_number : TokenKind → ℕ
kind_number EnumMember = 0
kind_number Function = 1
kind_number Keyword = 2
kind_number Operator = 3
kind_number Regexp = 4
kind_number String = 5

abbrev pub natural : ℕ → Data
natural n = number (unsigned n)

-- how many units after a position another is, or after the start of its line if that is another
abbrev pub column_after : Position → Position → ℕ
column_after last start = if start.line == last.line then start.character - last.character else start.character

-- five numbers: how many lines and units after a position a token is, how long it is, its kind, and no modifiers
abbrev pub mark_data : Position → Mark → List Data
mark_data last mark =
    let start = mark.range.start in
    natural (start.line - last.line) ∷ natural (column_after last start)
    ∷ natural (mark.range.end.character - start.character) ∷ natural (kind_number mark.kind) ∷ natural 0 ∷ []

-- the numbers of tokens that are after a position, each counted from the one before it
abbrev pub marks_data : Position → List Mark → List Data
marks_data last [] = []
marks_data last (mark ∷ marks) = mark_data last mark ++ marks_data mark.range.start marks

abbrev pub start : Position
start = record { line = 0; character = 0 }

-- the tokens of filtersets, in the order of the file
abbrev pub HighlightsRows : Encoding → Text → List TextRow → Data → Type 0
HighlightsRows encoding text rows d =
    (marks sorted : List Mark) × Joins (RowMarks encoding text) rows marks × IsPermutation marks sorted
    × IsNonDecreasingBy (λ mark. mark.from) sorted
    × (d ≡ object (member (codes "data") (array (items_of (marks_data start sorted))) no_members))
