-- Where texts are in files.
use Rattle.std.specs.{Prelude.◌+◌, Prelude.◌-◌, Prelude.Option, Prelude.Some, Prelude.None, Prelude.min, Borrow.Bor}
use Rattle.filterset_display.specs.declared.source.{FileSpan.FileSpan, Source.Source}
use Rattle.filterset_faults.specs.{Span.length_of, Span.offset_of, Span.span, declared.span.SourceSpan.SourceSpan}
use Rattle.filterset_configuration.specs.Places.{file_span}
use Rattle.filterset_configuration.specs.declared.{place.Place.Place, stretch.Stretch.Stretch}
use Rattle.filterset_entries.specs.declared.place.{FilePlace.FilePlace, Spot.Spot}
use Rattle.filterset_entries.specs.declared.place.Spot.TheVariants.{Line, Literal}

-- where a text is in its file: a string of a configuration is read as the text, or the text is a line
pub data TextSpot : Type 0 where
  literal : Place → TextSpot
  line : Stretch → TextSpot

abbrev pub spot_of : Spot → TextSpot
spot_of (Literal place) = literal place.now
spot_of (Line stretch) = line stretch

-- a place in a file
pub record Placement : Type 0 where
  pub file : Bor Source
  pub spot : TextSpot

abbrev pub placement_of : FilePlace → Placement
placement_of at = record { file = at.file; spot = spot_of at.spot }

-- the span of a file that a span of one of its lines is: it ends with the line, if that ends first
abbrev pub line_span : Stretch → SourceSpan → SourceSpan
line_span stretch s =
    let from = min (stretch.from + offset_of s) stretch.to in
    span from (min (from + length_of s) stretch.to - from)

-- the span of a file that a span of a text was read from
abbrev pub span_in : TextSpot → SourceSpan → SourceSpan
span_in (literal place) s = file_span place s
span_in (line stretch) s = line_span stretch s

-- the span of its file that a span of a text was read from, if the text has a place and the fault a span
abbrev pub file_part : Option Placement → Option SourceSpan → Option FileSpan
file_part (Some at) (Some s) = Some (record { file = at.file; span = span_in at.spot s })
file_part at s = None
