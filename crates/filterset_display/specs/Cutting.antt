-- How the code cuts a text into lines. Only private contracts cite this; LineLemmas and MetLemmas show that it finds the
-- lines that Lines defines.
use Rattle.std.specs.Prelude.{ℕ, ◌+◌, Bool, nat_le, List, [], ◌∷◌, length}
use Rattle.filterset_display.specs.{declared.line.Line.Line, Columns.Text, Lines.LineRow, Lines.pieces}

abbrev pub line_row : Line → LineRow
line_row line = record { number = line.number; start = line.start; text = line.text.now }

-- the lines with these texts, the first of which has this number and begins here; one line feed ends each
abbrev pub numbered : ℕ → ℕ → List Text → List LineRow
numbered number start [] = []
numbered number start (text ∷ texts) =
    record { number = number; start = start; text = text } ∷ numbered (number + 1) (start + (length text + 1)) texts

abbrev pub lines_of : Text → List LineRow
lines_of text = numbered 1 0 (pieces text)

-- the line ends at this position or after it
abbrev pub reaches : ℕ → LineRow → Bool
reaches position line = nat_le position (line.start + length line.text)
