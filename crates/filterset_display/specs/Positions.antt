-- Positions in texts, as editors count them: a line, and a column in units of an encoding.
use Rattle.std.specs.Prelude.{◌≡◌, ◌≤◌, ◌<◌, ◌==◌, ◌&&◌, ◌||◌, ◌+◌, ◌-◌, ℕ, Bool, not, nat_lt, List, [], ◌∷◌, IfSome, MatchOption, Some, chars, drop, length, slice_get, slice_index, sum_by, if◌then◌else◌}
use Rattle.std.specs.{Char.len_utf8, List.AllPass, List.slice_range, Str.IsCharBoundary}
use Rattle.filterset_display.specs.declared.positions.Encoding.{Encoding}
use Rattle.filterset_display.specs.declared.positions.Encoding.TheVariants.{Utf8, Utf16, Utf32}
use Rattle.filterset_display.specs.declared.positions.Position.{Position}

abbrev pub Text : Type 0
Text = List ℕ

-- a line break ends with this byte, which that one follows: a line break is `\n`, `\r\n` or `\r`
abbrev pub ends_line : ℕ → ℕ → Bool
ends_line b next = b == 10 || (b == 13 && not (next == 10))

-- where lines begin after line breaks, in the rest of a text at this offset
unfoldable pub starts_from : ℕ → Text → List ℕ
starts_from at [] = []
starts_from at (b ∷ bs) = if ends_line b (slice_index bs 0) then (at + 1) ∷ starts_from (at + 1) bs else starts_from (at + 1) bs

-- where the lines of a text begin
abbrev pub line_starts : Text → List ℕ
line_starts text = 0 ∷ starts_from 0 text

abbrev pub is_break : ℕ → Bool
is_break c = c == 10 || c == 13

-- how many units a character counts: bytes, units of UTF-16, or one
abbrev pub counted : Encoding → ℕ → ℕ
counted Utf8 c = len_utf8 c
counted Utf16 c = if nat_lt c 0x10000 then 1 else 2
counted Utf32 c = 1

-- line breaks are in no column of their own
abbrev pub units_of : Encoding → ℕ → ℕ
units_of encoding c = if is_break c then 0 else counted encoding c

-- the column after the front of a line
abbrev pub column_of : Encoding → Text → ℕ
column_of encoding front = sum_by (units_of encoding) (chars front)

-- The position of an offset: the last line that begins at or before it, and the column after what of the line is before it.
abbrev pub IsPosition : Encoding → Text → ℕ → Position → Type 0
IsPosition encoding text offset position =
    (start : ℕ) × (slice_get (line_starts text) position.line ≡ Some start) × (start ≤ offset)
    × IfSome (slice_get (line_starts text) (position.line + 1)) (λ next. offset < next)
    × (position.character ≡ column_of encoding (slice_range text start offset))

-- how many bytes these characters have up to a column, or up to a line break that is before it
unfoldable pub bytes_before : Encoding → ℕ → List ℕ → ℕ
bytes_before encoding column [] = 0
bytes_before encoding column (c ∷ cs) =
    if is_break c || nat_lt column (units_of encoding c) then 0
    else len_utf8 c + bytes_before encoding (column - units_of encoding c) cs

-- The offset of a position: as many characters into its line as fit before the column. Behind the last line is the text's end.
abbrev pub IsOffset : Encoding → Text → Position → ℕ → Type 0
IsOffset encoding text position offset =
    MatchOption (slice_get (line_starts text) position.line) (offset ≡ length text)
    (λ start. offset ≡ start + bytes_before encoding position.character (chars (drop start text)))

-- the offset is in the line of this position, before its line break, after as many units as the position says
abbrev pub StandsAt : Encoding → Text → Position → ℕ → Type 0
StandsAt encoding text position offset =
    (start : ℕ) × (slice_get (line_starts text) position.line ≡ Some start) × (start ≤ offset) × IsCharBoundary text offset
    × AllPass (λ c. not (is_break c)) (chars (slice_range text start offset))
    × (position.character ≡ column_of encoding (slice_range text start offset))
