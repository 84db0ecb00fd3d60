-- What is written of a remark as JSON.
use Rattle.std.specs.Prelude.{◌≡◌, ℕ, Option, Some, None, codes, option_map}
use Rattle.serde_json.specs.Data.{Data, Members, null, number, unsigned, string, object, member, no_members, put}
use Rattle.filterset_faults.specs.{Span.offset_of, Span.length_of, declared.span.SourceSpan.SourceSpan}
use Rattle.filterset_display.specs.declared.{json.Spot.Spot, source.FileSpan.FileSpan, source.Location.Location}
use Rattle.filterset_display.specs.{Columns.Text, Lines.from_of, Locations.StandsAt, Remarks.RemarkRow, Remarks.word_of}

abbrev pub text_data : Option Text → Data
text_data None = null
text_data (Some text) = string text

abbrev pub number_data : Option ℕ → Data
number_data None = null
number_data (Some n) = number (unsigned n)

-- where a span of the text begins, if there is a span
abbrev pub BeginsAt : Text → Option SourceSpan → Option Location → Type 0
BeginsAt text None None = Unit {0}
BeginsAt text (Some span) (Some location) = StandsAt text (from_of text span) location
BeginsAt text _ _ = ⊥

-- where a span of a file begins, if there is one
abbrev pub BeginsIn : Option FileSpan → Option Location → Type 0
BeginsIn None location = location ≡ None
BeginsIn (Some part) location = BeginsAt part.file.now.text.now (Some part.span) location

-- the numbers are those of a span that begins here
abbrev pub IsSpotOf : (Option Location → Type 0) → Option SourceSpan → Spot → Type 0
IsSpotOf Begins span spot =
    (location : Option Location) × Begins location
    × (spot.offset ≡ option_map offset_of span)
    × (spot.length ≡ option_map length_of span)
    × (spot.line ≡ option_map (λ p. p.line) location)
    × (spot.column ≡ option_map (λ p. p.column) location)

-- the object of a remark that begins at `here` in the text with this number, and at `there` in its file
abbrev pub remark_object :
    Text → Option ℕ → RemarkRow → Option FileSpan → Option Location → Option Location → Data
remark_object origin index remark part here there =
    let span = option_map (λ p. p.span) part in
    object (member (codes "code") (string remark.code)
    (member (codes "column") (number_data (option_map (λ p. p.column) here))
    (member (codes "file") (text_data (option_map (λ p. p.file.now.origin.now) part))
    (member (codes "file_column") (number_data (option_map (λ p. p.column) there))
    (member (codes "file_length") (number_data (option_map length_of span))
    (member (codes "file_line") (number_data (option_map (λ p. p.line) there))
    (member (codes "file_offset") (number_data (option_map offset_of span))
    (member (codes "help") (text_data remark.help)
    (member (codes "label") (text_data remark.label)
    (member (codes "length") (number_data (option_map length_of remark.span))
    (member (codes "line") (number_data (option_map (λ p. p.line) here))
    (member (codes "message") (string remark.message)
    (member (codes "offset") (number_data (option_map offset_of remark.span))
    (member (codes "origin") (string origin)
    (member (codes "severity") (string (word_of remark.severity))
    (member (codes "text") (number_data index) no_members))))))))))))))))

-- the value says what there is to say of the remark, which is in this part of a file, if there is one
abbrev pub RemarkData : Text → Text → Option FileSpan → Option ℕ → RemarkRow → Data → Type 0
RemarkData origin text part index remark d =
    (here : Option Location) × (there : Option Location) × BeginsAt text remark.span here × BeginsIn part there
    × (d ≡ remark_object origin index remark part here there)

-- ---- what the code adds to an object, member by member

abbrev pub with_remark : RemarkRow → Members → Members
with_remark remark ms =
    put (codes "severity") (string (word_of remark.severity)) (put (codes "message") (string remark.message)
    (put (codes "label") (text_data remark.label)
    (put (codes "help") (text_data remark.help) (put (codes "code") (string remark.code) ms))))

abbrev pub with_spot : Spot → Members → Members
with_spot spot ms =
    put (codes "offset") (number_data spot.offset) (put (codes "line") (number_data spot.line)
    (put (codes "length") (number_data spot.length) (put (codes "column") (number_data spot.column) ms)))

abbrev pub with_file_spot : Spot → Members → Members
with_file_spot spot ms =
    put (codes "file_offset") (number_data spot.offset) (put (codes "file_line") (number_data spot.line)
    (put (codes "file_length") (number_data spot.length) (put (codes "file_column") (number_data spot.column) ms)))
