-- How remarks are written.
use Rattle.std.specs.Prelude.{◌≡◌, ◌++◌, ℕ, List, Option, Some, None, codes, option_map}
use Rattle.serde_json.specs.{Data.Data, Written.compact_text}
use Rattle.filterset_display.specs.{Annotations.Annotation, Columns.Text, Drawings.Drawing, Json.RemarkData}
use Rattle.filterset_display.specs.{Remarks.RemarkRow, declared.color.Color.Color, declared.source.FileSpan.FileSpan}
use Rattle.filterset_display.specs.declared.remark.Form.{Form, TheVariants.Drawn, TheVariants.Github, TheVariants.Json}
use Rattle.filterset_json.specs.Pieces.{Pieces}
use Rattle.filterset_entries.specs.Checked.{TextRow}
use Rattle.filterset_entries.specs.Placements.{Placement, TextSpot, file_part, line, literal, placement_of}
use Rattle.filterset_entries.specs.declared.form.RemarkWriter.{RemarkWriter}

-- how remarks on a text are written, where the text comes from, and its number, if it has one
pub record Writing : Type 0 where
  pub form : Form
  pub origin : Text
  pub text : Text
  pub place : Option Placement
  pub number : Option ℕ

abbrev pub writing : Form → Text → Text → Option Placement → Option ℕ → Writing
writing form origin text place number = record { form = form; origin = origin; text = text; place = place; number = number }

abbrev pub writing_of : RemarkWriter → Writing
writing_of writer = writing writer.form writer.source.now.origin.now writer.source.now.text.now
    (option_map placement_of writer.place) writer.number

-- the name of a text that has a number; remarks on other texts name them
abbrev pub name_of : Writing → Option Text
name_of w = option_map (λ number. w.origin) w.number

-- the name to note under a drawing in a file: that of a text that a string is read as, and none of a line, which is drawn
-- with its number
abbrev pub noted_in : TextSpot → Option Text → Option Text
noted_in (literal place) name = name
noted_in (line stretch) name = None

abbrev pub noted_at : Option Placement → Option Text → Option Text
noted_at (Some at) name = noted_in at.spot name
noted_at None name = None

abbrev pub note_of : Writing → Option Text
note_of w = noted_at w.place (name_of w)

-- a drawing of a remark under its text, or, if it is in a part of a file, under that, maybe with a note of a name
abbrev pub IsDrawn : Option FileSpan → Color → Writing → RemarkRow → Text → Type 0
IsDrawn None color w remark drawing = Drawing color w.origin w.text remark.span None remark drawing
IsDrawn (Some part) color w remark drawing =
    Drawing color part.file.now.origin.now part.file.now.text.now (Some part.span) (note_of w) remark drawing

-- a drawing, a JSON object in a line, or an annotation
abbrev pub WrittenAs : Form → Option FileSpan → Writing → RemarkRow → Text → Type 0
WrittenAs (Drawn color) part w remark piece = IsDrawn part color w remark piece
WrittenAs Json part w remark piece =
    (d : Data) × RemarkData w.origin w.text part w.number remark d × (piece ≡ compact_text d ++ codes "\n")
WrittenAs Github part w remark piece = Annotation part (name_of w) remark piece

-- what is written of a remark
abbrev pub IsWritten : Writing → RemarkRow → Text → Type 0
IsWritten w remark piece = WrittenAs w.form (file_part w.place remark.span) w remark piece

-- how remarks on the text with this number are written
abbrev pub text_writing : Form → TextRow → ℕ → Writing
text_writing form row number = writing form row.origin row.text row.place (Some number)

-- what is written of faults of the text with this number, one after the other
abbrev pub FaultPieces : Form → TextRow → ℕ → List RemarkRow → Text → Type 0
FaultPieces form row number remarks = Pieces (IsWritten (text_writing form row number)) remarks
