-- The lines of a text, and the pieces between its line feeds.
use Rattle.std.proofs.Common.{◌≡◌, ℕ, zero, suc, ◌+◌, ◌-◌, ◌<◌, ◌≤◌, ◌==◌, arith, Bool, true, false, List, [], ◌∷◌, length, take, get_or, ◌∙◌, sym, ap}
use Rattle.std.specs.{Prelude.if◌then◌else◌, Prelude.slice_index, List.zip, Str.Lines.lines, Str.Lines.lines_of_parts}
use Rattle.std.proofs.lemmas.List.{length-take-le, Sums.sum_by_more, Sums.sum_by_more_le}
use Rattle.std.proofs.lemmas.Slice.Zip.{get_or-zip, length-zip}
use Rattle.filterset_display.specs.{Columns.Text, Lines.pieces}
use Rattle.filterset_display.proofs.LineLemmas.{extent-slice_split}
use Rattle.filterset_entries.specs.Entries.{line_start}

-- ---- lines

last-count : (piece : Text) (none : Bool) → length (if none then [] else piece ∷ []) ≤ 1
last-count piece true = omega arith
last-count piece false = omega arith

-- there are at most as many lines as pieces
lines-le : (parts : List Text) → length (lines_of_parts parts) ≤ length parts
lines-le [] = omega arith
lines-le (piece ∷ []) = omega (arith, last-count piece (length piece == 0))
lines-le (piece ∷ next ∷ parts) = omega (arith, lines-le (next ∷ parts))

last-le : (piece : Text) (none : Bool) (i : ℕ) (d e : Text) → i < length (if none then [] else piece ∷ [])
    → length (get_or (if none then [] else piece ∷ []) i d) ≤ length (get_or (piece ∷ []) i e)
last-le piece true i d e lt = absurd (omega (arith, lt))
last-le piece false zero d e lt = omega arith
last-le piece false (suc i) d e lt = absurd (omega (arith, lt))

stripped-le : (piece : Text) (ends : Bool) → length (if ends then take (length piece - 1) piece else piece) ≤ length piece
stripped-le piece true = omega (arith, length-take-le (length piece - 1) piece (omega arith))
stripped-le piece false = omega arith

-- a line is no longer than its piece
line-le : (parts : List Text) (i : ℕ) (d e : Text) → i < length (lines_of_parts parts)
    → length (get_or (lines_of_parts parts) i d) ≤ length (get_or parts i e)
line-le [] i d e lt = absurd (omega (arith, lt))
line-le (piece ∷ []) i d e lt = last-le piece (length piece == 0) i d e lt
line-le (piece ∷ next ∷ parts) zero d e lt = stripped-le piece (slice_index piece (length piece - 1) == 13)
line-le (piece ∷ next ∷ parts) (suc i) d e lt = line-le (next ∷ parts) i d e (omega (arith, lt))

-- ---- a turn over the lines and the pieces of a text

-- the line and the piece that have this index
pub record LineTurn (text : Text) (i : ℕ) (line piece : Text) : Type 0 where
  pub within : i < length (lines text)
  pub at : get_or (lines text) i line ≡ line
  pub next : line_start text (i + 1) ≡ line_start text i + (length piece + 1)
  pub fits : line_start text i + length piece ≤ length text
  pub short : length line ≤ length piece

pub line_turn : (text : Text) (i : ℕ) (p : Text × Text) → i < length (zip (lines text) (pieces text))
    → p ≡ get_or (zip (lines text) (pieces text)) i p → LineTurn text i p.0 p.1
line_turn text i p lt is =
    let count = length-zip (lines text) (pieces text) in
    let line : i < length (lines text) = omega (arith, lt, count) in
    let piece : i < length (pieces text) = omega (arith, lt, count) in
    let both = is ∙ get_or-zip (lines text) (pieces text) i p line piece in
    let left : p.0 ≡ get_or (lines text) i p.0 = ap (λ q. q.0) both in
    let right : p.1 ≡ get_or (pieces text) i p.1 = ap (λ q. q.1) both in
    let long : length p.1 ≡ length (get_or (pieces text) i p.1) = ap length right in
    let fits = sum_by_more_le (λ (t : Text). length t + 1) (pieces text) i p.1 piece in
    let short = line-le (pieces text) i p.0 p.1 line in
    record {
      within = line;
      at = sym left;
      next = sum_by_more (λ (t : Text). length t + 1) (pieces text) i p.1 piece ∙ ap (λ n. line_start text i + (n + 1)) (sym long);
      fits = omega (arith, fits, long, extent-slice_split (λ b. b == 10) text);
      short = omega (arith, short, long, ap length left);
    }

-- there are as many turns as lines
pub turns_long : (text : Text) → length (zip (lines text) (pieces text)) ≡ length (lines text)
turns_long text =
    let le : length (lines text) ≤ length (pieces text) = lines-le (pieces text) in
    omega (arith, length-zip (lines text) (pieces text), le)
