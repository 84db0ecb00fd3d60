-- Which lines a text has, and which of them a stretch of it meets.
use Rattle.std.specs.Prelude.{◌≡◌, ℕ, ◌+◌, ◌-◌, ◌<◌, ◌≤◌, ◌==◌, ◌⊎◌, ◌↔◌, max, min, List, ◌∷◌, ◌++◌, AllPairs, Contains, length, sum_by}
use Rattle.std.specs.List.{slice_split}
use Rattle.filterset_faults.specs.{Span.offset_of, Span.length_of, declared.span.SourceSpan.SourceSpan}
use Rattle.filterset_display.specs.Columns.{Text, columns_between}

-- a line: its number, how many bytes stand before it, and its text without the line feed that ends it
pub record LineRow : Type 0 where
  pub number : ℕ
  pub start : ℕ
  pub text : Text

-- what stands between the line feeds of a text
abbrev pub pieces : Text → List Text
pieces text = slice_split (λ b. b == 10) text

-- A line of a text is one of its pieces. The first has the number 1. Before a line stand the earlier pieces, each with its
-- line feed.
pub record IsLine (text : Text) (line : LineRow) : Type 0 where
  pub earlier : List Text
  pub later : List Text
  pub cut : pieces text ≡ earlier ++ line.text ∷ later
  pub number_is : line.number ≡ length earlier + 1
  pub start_is : line.start ≡ sum_by (λ piece. length piece + 1) earlier

-- ---- a stretch of a text, from one position to another

-- where a span begins and ends: at the end of the text where that ends first
abbrev pub from_of : Text → SourceSpan → ℕ
from_of text span = min (offset_of span) (length text)

abbrev pub to_of : Text → SourceSpan → ℕ
to_of text span = min (offset_of span + length_of span) (length text)

-- the position is in the line: before one of its bytes, or at its end
abbrev pub IsIn : LineRow → ℕ → Type 0
IsIn line position = (line.start ≤ position) × (position ≤ line.start + length line.text)

-- A position of the stretch is in the line. The stretch has the positions before its bytes, and if it is empty, that where
-- it stands.
abbrev pub Meets : ℕ → ℕ → LineRow → Type 0
Meets from to line =
    (position : ℕ) × IsIn line position × (from ≤ position) × ((position ≡ from) ⊎ (position < to))

-- these are the lines of the text that the stretch meets, in their order
pub record AreMet (text : Text) (from to : ℕ) (lines : List LineRow) : Type 0 where
  pub exactly : (line : LineRow) → Contains lines line ↔ (IsLine text line × Meets from to line)
  pub in_order : AllPairs (λ one other. one.number < other.number) lines

-- the columns of a line before a position of the text
abbrev pub column_of : LineRow → ℕ → ℕ
column_of line position = columns_between line.text 0 (position - line.start)

-- the columns of the characters of the stretch in the line, and one where they have none
abbrev pub caret_count : LineRow → ℕ → ℕ → ℕ
caret_count line from to = max (columns_between line.text (from - line.start) (to - line.start)) 1
