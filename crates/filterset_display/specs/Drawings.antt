-- What is drawn of a remark.
use Rattle.std.specs.Prelude.{◌≡◌, ℕ, ◌-◌, ◌++◌, List, [], Option, Some, None, codes, decimal, length, replicate}
use Rattle.std.specs.List.{flat_map}
use Rattle.filterset_faults.specs.declared.span.SourceSpan.{SourceSpan}
use Rattle.filterset_display.specs.declared.{color.Color.Color, drawing.Margin.Margin, source.Location.Location}
use Rattle.filterset_display.specs.Color.{blue, mark_of, painted, plain, red}
use Rattle.filterset_display.specs.Columns.{Text, drawn}
use Rattle.filterset_display.specs.Lines.{AreMet, LineRow, caret_count, column_of, from_of, pieces, to_of}
use Rattle.filterset_display.specs.{Locations.StandsAt, Remarks.RemarkRow, Remarks.word_of}

-- what stands left of a text: as many columns as the number of its last line takes
abbrev pub margin_of : Color → Text → Margin
margin_of color text = record { width = length (decimal (length (pieces text))); color = color }

-- a new line, with blanks where the number of a line of the text would stand
abbrev pub margin_line : Margin → Text
margin_line margin = codes "\n" ++ (replicate margin.width 32 ++ painted margin.color blue)

-- the code and the message of a remark, on one line
abbrev pub title : Color → RemarkRow → Text
title color remark =
    painted color (mark_of remark.severity) ++ (word_of remark.severity ++ (painted color plain
    ++ (codes ": " ++ (remark.code ++ (codes ": " ++ drawn remark.message)))))

abbrev pub location_part : Margin → Text → Location → Text
location_part margin origin location =
    margin_line margin ++ (codes "-->" ++ (painted margin.color plain ++ (codes " " ++ (drawn origin
    ++ (codes ":" ++ (decimal location.line ++ (codes ":" ++ decimal location.column)))))))

abbrev pub bar : Margin → Text
bar margin = margin_line margin ++ (codes " |" ++ painted margin.color plain)

-- a line of the text, after its number
abbrev pub text_line : Margin → LineRow → Text
text_line margin line =
    codes "\n" ++ (replicate (margin.width - length (decimal line.number)) 32 ++ (painted margin.color blue
    ++ (decimal line.number ++ (codes " |" ++ (painted margin.color plain ++ (codes " " ++ drawn line.text))))))

-- The carets under a line, from the position `from` of the text to the position `to`: as many blanks as the characters of the
-- line before them are wide, and then as many carets as those between them are, and at least one.
abbrev pub caret_line : Margin → ℕ → ℕ → LineRow → Text
caret_line margin from to line =
    bar margin ++ (codes " " ++ (replicate (column_of line from) 32
    ++ (painted margin.color red ++ (replicate (caret_count line from to) 94 ++ painted margin.color plain))))

-- lines, each with the carets of the stretch from the one position to the other
abbrev pub marked_lines : Margin → ℕ → ℕ → List LineRow → Text
marked_lines margin from to lines =
    flat_map (λ line. text_line margin line ++ caret_line margin from to line) lines

-- what is drawn of a span of the text: where it begins, and each line that it meets
abbrev pub DrawnSpan : Margin → Text → Text → Option SourceSpan → Text → Type 0
DrawnSpan margin origin text None part = part ≡ []
DrawnSpan margin origin text (Some span) part =
    let from = from_of text span in
    let to = to_of text span in
    (location : Location) × (lines : List LineRow) × StandsAt text from location × AreMet text from to lines
    × (part ≡ location_part margin origin location ++ (bar margin ++ marked_lines margin from to lines))

abbrev pub label_part : Color → Option Text → Text
label_part color None = []
label_part color (Some label) = codes " " ++ (painted color red ++ (drawn label ++ painted color plain))

-- a line below those of the text, which begins so
abbrev pub addition_part : Margin → Text → Option Text → Text
addition_part margin begin None = []
addition_part margin begin (Some addition) =
    margin_line margin ++ (codes " =" ++ (painted margin.color plain ++ (codes " " ++ (begin ++ drawn addition))))

-- A drawing of a remark at a span of a text that stands where `origin` says, maybe with a note of a name, and with an empty
-- line at its end.
abbrev pub Drawing : Color → Text → Text → Option SourceSpan → Option Text → RemarkRow → Text → Type 0
Drawing color origin text span name remark drawing =
    let margin = margin_of color text in
    (part : Text) × DrawnSpan margin origin text span part
    × (drawing ≡ title color remark ++ (part ++ (label_part color remark.label
    ++ (addition_part margin (codes "note: in ") name
    ++ (addition_part margin (codes "help: ") remark.help ++ codes "\n\n")))))
