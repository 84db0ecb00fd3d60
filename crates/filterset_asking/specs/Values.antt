-- What is written of the wrong values of a configuration.
use Rattle.std.specs.Prelude.{◌++◌, Option, None, codes, length, option_map, string_bytes}
use Rattle.std.specs.Borrow.{Bor}
use Rattle.filterset_entries.specs.{Forms.IsWritten, Forms.writing, Placements.Placement, Placements.literal}
use Rattle.filterset_display.specs.{declared.remark.Form.Form, Columns.Text, Remarks.RemarkRow, Remarks.said}
use Rattle.filterset_display.specs.declared.{remark.Severity.TheVariants.Error, source.Source.Source}
use Rattle.filterset_faults.specs.Span.{span}
use Rattle.filterset_configuration.specs.declared.wrong.WrongValue.{WrongValue}

-- what is said of a value: of the whole of it, if it was found
abbrev pub value_remark : WrongValue → RemarkRow
value_remark w = said Error (codes "InvalidValue")
    (codes "`" ++ (string_bytes w.path ++ (codes "` must be " ++ w.expected.now)))
    None None (option_map (λ p. span 0 (length (string_bytes w.text))) w.place)

-- where the value is in its file, if it was found
abbrev pub value_place : Bor Source → WrongValue → Option Placement
value_place file w = option_map (λ p. record { file = file; spot = literal p }) w.place

-- what is written of a value of this file; the message has its path
abbrev pub IsValuePiece : Form → Bor Source → WrongValue → Text → Type 0
IsValuePiece form file w =
    IsWritten (writing form (string_bytes w.path) (string_bytes w.text) (value_place file w) None) (value_remark w)
