-- How what faults are about may be written instead.
use Rattle.std.specs.Prelude.{◌≡◌, ◌⊎◌, ◌-◌, ◌++◌, ◌==◌, ◌&&◌, ◌||◌, ℕ, Bool, [], Option, None, Some, codes, drop, if◌then◌else◌, length, slice_index, take}
use Rattle.std.specs.Str.{IsCharBoundary, trim_start}
use Rattle.filterset_server.specs.Edits.{EditRow, edit_row}
use Rattle.filterset_display.specs.Lines.{from_of, to_of}
use Rattle.filterset_display.specs.Positions.{Text}
use Rattle.filterset_faults.specs.Span.{offset_of, span}
use Rattle.filterset_faults.specs.declared.{error.ParseSingleError.ParseSingleError, span.SourceSpan.SourceSpan}
use Rattle.filterset_faults.specs.declared.error.ParseSingleError.TheVariants as faults
use Rattle.filterset_grammar.specs.{Printing.printed, Tree.Tree}
use Rattle.filterset_configuration.specs.declared.stretch.Stretch.{Stretch}
use Rattle.filterset_rewriting.specs.Calls.{IsCall, NoCall}
use Rattle.filterset_server.specs.declared.repairs.Repair.{Repair}

-- an edit of a filterset's text, and what it is called
pub record RepairRow : Type 0 where
  pub title : Text
  pub edit : EditRow

abbrev pub repair_row : Repair → RepairRow
repair_row repair = record { title = repair.title.now; edit = edit_row repair.edit }

-- ---- words

-- what is put between a word and this byte: nothing if it is a blank, or 0, where the text ends
abbrev pub gap_beside : ℕ → Text
gap_beside b = if (b == 0 || (b == 10 || (b == 13 || b == 32))) then [] else codes " "

-- a word with blanks around it, as far as the text has none beside the stretch
abbrev pub spaced : Text → Stretch → Text → Text
spaced text at word = gap_beside (slice_index text (at.from - 1)) ++ (word ++ gap_beside (slice_index text at.to))

-- the stretch of a text at a span, which ends with the text if that ends first
abbrev pub stretch_in : Text → SourceSpan → Stretch
stretch_in text s = record { from = from_of text s; to = to_of text s }

-- ---- operators in front of their operands

-- the text has only white space
abbrev pub is_blank : Text → Bool
is_blank text = length (trim_start text) == 0

-- what is meant, in parentheses unless there is nothing before and after it
abbrev pub call_text : Text → Text → Text → Text
call_text front meant behind =
    if is_blank front && is_blank behind then meant else codes "(" ++ (meant ++ codes ")")

-- the operator at the span and its operands become the expression that is meant, up to this text after them
abbrev pub call_row : Text → SourceSpan → Tree SourceSpan → Text → RepairRow
call_row text s e behind = record {
  title = codes "Write the operator between its operands";
  edit = record {
    at = record { from = offset_of s; to = length text - length behind };
    text = call_text (take (offset_of s) text) (printed e) behind;
  };
}

-- the repair of an operator at the span that stands in front of its operands; none if there are no operands
abbrev pub IsCallRepair : Text → SourceSpan → Option RepairRow → Type 0
IsCallRepair text s None = (IsCharBoundary text (offset_of s) → ⊥) ⊎ NoCall (drop (offset_of s) text)
IsCallRepair text s (Some row) = (e : Tree SourceSpan) × (behind : Text)
    × IsCall (drop (offset_of s) text) e behind × (row ≡ call_row text s e behind)

-- ---- the table

-- a word is put in place of a span, as it is
abbrev pub reworded : Text → Text → SourceSpan → Text → Option RepairRow
reworded title text s word = Some (record { title = title; edit = record { at = stretch_in text s; text = word } })

-- an operator is, with blanks around it
abbrev pub respelt : Text → Text → SourceSpan → Text → Option RepairRow
respelt title text s word = reworded title text s (spaced text (stretch_in text s) word)

-- What may be written in place of what a fault is about: the operator that is meant by another language's, and `\\` for a backslash
-- that begins no escape.
abbrev pub repair_of : Text → ParseSingleError → Option RepairRow
repair_of text (faults.InvalidAndOperator s) = respelt (codes "Write `and`") text s (codes "and")
repair_of text (faults.InvalidOrOperator s) = respelt (codes "Write `or`") text s (codes "or")
repair_of text (faults.ExprFoundUnaryOp s op suggest) = reworded (codes "Write `not`") text s (codes "not")
repair_of text (faults.InvalidEscapeCharacter s) =
    reworded (codes "Escape the backslash") text (span (offset_of s) 1) (codes "\\\\")
repair_of text fault = None

-- the repair of a fault of a text, if there is one: that of the table, or of an operator in front of its operands
abbrev pub IsRepairOf : Text → ParseSingleError → Option RepairRow → Type 0
IsRepairOf text (faults.ExprFoundBinaryOp s op suggest) o = IsCallRepair text s o
IsRepairOf text fault o = o ≡ repair_of text fault
