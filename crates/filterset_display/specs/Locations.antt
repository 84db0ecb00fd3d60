-- In which line and column a position of a text stands.
use Rattle.std.specs.Prelude.{◌≡◌, ℕ, ◌+◌, ◌-◌, max}
use Rattle.filterset_display.specs.{declared.source.Location.Location, Columns.Text}
use Rattle.filterset_display.specs.Lines.{LineRow, IsIn, IsLine, column_of}

-- The location of a position of the text, by the line that has the position `at`. Lines and columns count from 1 on.
abbrev pub StandsIn : Text → ℕ → ℕ → Location → Type 0
StandsIn text at position location =
    (line : LineRow) × IsLine text line × IsIn line at
    × (location.line ≡ line.number) × (location.column ≡ column_of line position + 1)

abbrev pub StandsAt : Text → ℕ → Location → Type 0
StandsAt text from location = StandsIn text from from location

-- a stretch of the text ends in the line of its last byte
abbrev pub EndsAt : Text → ℕ → ℕ → Location → Type 0
EndsAt text from to location = StandsIn text (max from (to - 1)) to location
