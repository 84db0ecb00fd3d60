-- Parts of documents, as the protocol has them.
use Rattle.std.specs.{Prelude.◌≡◌, Prelude.◌≤◌, Prelude.◌<◌, Prelude.ℕ, Prelude.codes, Str.IsCharBoundary}
use Rattle.serde_json.specs.Data.{Data, number, unsigned, string, object, member, no_members}
use Rattle.filterset_display.specs.Lines.{from_of, to_of}
use Rattle.filterset_display.specs.Positions.{IsPosition, Text}
use Rattle.filterset_display.specs.declared.positions.{Encoding.Encoding, Position.Position, Range.Range}
use Rattle.filterset_faults.specs.declared.span.SourceSpan.{SourceSpan}

-- the offset of the last character that begins at an offset or before it; the end of the text counts as one
abbrev pub IsFloor : Text → ℕ → ℕ → Type 0
IsFloor text offset at =
    (at ≤ offset) × IsCharBoundary text at × ((other : ℕ) → at < other → other ≤ offset → ¬ (IsCharBoundary text other))

-- the position of the last character that begins at an offset or before it
abbrev pub IsPositionAt : Encoding → Text → ℕ → Position → Type 0
IsPositionAt encoding text offset position =
    (at : ℕ) × IsFloor text offset at × IsPosition encoding text at position

abbrev pub position_data : Position → Data
position_data position =
    object (member (codes "character") (number (unsigned position.character))
    (member (codes "line") (number (unsigned position.line)) no_members))

abbrev pub range_data : Range → Data
range_data range =
    object (member (codes "end") (position_data range.end) (member (codes "start") (position_data range.start) no_members))

-- The range is that of a span of the text. It ends at the end of the text if the span ends later.
abbrev pub IsRangeOf : Encoding → Text → SourceSpan → Range → Type 0
IsRangeOf encoding text span range =
    IsPositionAt encoding text (from_of text span) range.start × IsPositionAt encoding text (to_of text span) range.end

-- the value is the range of a span
abbrev pub IsRange : Encoding → Text → SourceSpan → Data → Type 0
IsRange encoding text span d = (range : Range) × IsRangeOf encoding text span range × (d ≡ range_data range)

-- the text in place of a range
abbrev pub edit_data : Text → Data → Data
edit_data text range = object (member (codes "newText") (string text) (member (codes "range") range no_members))
