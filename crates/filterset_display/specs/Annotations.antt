-- Annotations of a GitHub workflow.
use Rattle.std.specs.Prelude.{◌≡◌, ℕ, ◌++◌, ◌==◌, [], Option, Some, None, chars, codes, decimal, encode_utf8, if◌then◌else◌}
use Rattle.std.specs.List.{flat_map}
use Rattle.filterset_display.specs.{Columns.Text, declared.annotation.Region.Region, declared.escaping.Part.Part}
use Rattle.filterset_display.specs.{declared.source.FileSpan.FileSpan, Lines.from_of, Lines.to_of}
use Rattle.filterset_display.specs.{Locations.EndsAt, Locations.StandsAt, Remarks.RemarkRow, Remarks.word_of}
use Rattle.filterset_display.specs.declared.escaping.Part.TheVariants.{Message, Property}

-- what a character of a message is written as: 37 is '%', 13 a carriage return and 10 a line feed
abbrev pub message_char : ℕ → Text
message_char c =
    if c == 37 then codes "%25" else if c == 13 then codes "%0D" else if c == 10 then codes "%0A" else encode_utf8 c

-- in a property, a colon and a comma have escapes too
abbrev pub property_char : ℕ → Text
property_char c = if c == 58 then codes "%3A" else if c == 44 then codes "%2C" else message_char c

-- a text, by what each of its characters is written as
abbrev pub escaped : (ℕ → Text) → Text → Text
escaped written text = flat_map written (chars text)

-- the properties of a region
abbrev pub region_text : Option Region → Text
region_text None = []
region_text (Some region) =
    codes "file=" ++ (escaped property_char region.file.now ++ (codes ",line=" ++ (decimal region.start.line
    ++ (codes ",endLine=" ++ (decimal region.end.line ++ (codes ",col=" ++ (decimal region.start.column
    ++ (codes ",endColumn=" ++ (decimal region.end.column ++ codes ",")))))))))

-- the region begins where the span begins, and ends where it ends
abbrev pub IsRegionOf : FileSpan → Region → Type 0
IsRegionOf part region =
    let text = part.file.now.text.now in
    (region.file.now ≡ part.file.now.origin.now) × StandsAt text (from_of text part.span) region.start
    × EndsAt text (from_of text part.span) (to_of text part.span) region.end

-- a line of a workflow's output
abbrev pub command : Option Region → RemarkRow → Text → Text
command region remark message =
    codes "::" ++ (word_of remark.severity ++ (codes " " ++ (region_text region ++ (codes "title="
    ++ (escaped property_char remark.code ++ (codes "::" ++ (escaped message_char message ++ codes "\n")))))))

-- a remark as such a line: in its region, or, if it is in no file, with the name of its text, if that has one
abbrev pub Annotation : Option FileSpan → Option Text → RemarkRow → Text → Type 0
Annotation (Some part) name remark line =
    (region : Region) × IsRegionOf part region × (line ≡ command (Some region) remark remark.message)
Annotation None (Some name) remark line = line ≡ command None remark (name ++ (codes ": " ++ remark.message))
Annotation None None remark line = line ≡ command None remark remark.message

-- what a character is written as in a part of a command
abbrev pub written_in : Part → ℕ → Text
written_in Message c = message_char c
written_in Property c = property_char c
