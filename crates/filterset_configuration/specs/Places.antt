-- Where the filtersets of nextest's configuration are in its file.
use Rattle.std.specs.Prelude.{◌≡◌, ◌≢◌, ◌+◌, ◌-◌, ◌==◌, ℕ, List, Option, Some, None, decimal, slice_get, unwrap_or, if◌then◌else◌}
use Rattle.filterset_json.specs.Shape.{Text}
use Rattle.filterset_sources.specs.Configurations.{ConfiguredRow, IsConfiguration, configured_rows}
use Rattle.filterset_sources.specs.declared.configuration.Configuration.{Configuration}
use Rattle.filterset_faults.specs.{Span.offset_of, Span.length_of, Span.span, declared.span.SourceSpan.SourceSpan}
use Rattle.filterset_configuration.specs.{Numbers.AreApart, Numbers.numbered, Strings.IsPlaceOf}
use Rattle.filterset_configuration.specs.declared.{place.Place.Place, stretch.Stretch.Stretch}

-- The place is that of the literal with the number that is written as `other`, and its literal is read as the text, which is
-- not so written.
abbrev pub IsNumberedPlace : List Stretch → Text → Text → Text → Place → Type 0
IsNumberedPlace literals file text other place = IsPlaceOf file text place
    × (number : ℕ) × (slice_get literals number ≡ Some place.literal) × (other ≡ decimal number) × (text ≢ decimal number)

-- The rows are those of a file, and the others those of the file with numbers in place of literals. At this position both have
-- the same path, and the text of the other is the number of the place's literal, which is read as the text of the one.
abbrev pub PlaceAt : Text → List Stretch → List ConfiguredRow → List ConfiguredRow → ℕ → Place → Type 0
PlaceAt file literals rows others at place =
    (row : ConfiguredRow) × (other : ConfiguredRow) × (slice_get rows at ≡ Some row) × (slice_get others at ≡ Some other)
    × (other.path ≡ row.path) × IsNumberedPlace literals file row.text other.text place

-- The place is that of the filterset at this position: so it is if in the file some literals are replaced by their numbers, and
-- it is a configuration then.
abbrev pub IsPlaceAt : Text → List ConfiguredRow → ℕ → Place → Type 0
IsPlaceAt file rows at place = (cuts : List Stretch) × (others : Configuration) × AreApart 0 cuts
    × IsConfiguration (numbered file cuts) others × PlaceAt file cuts rows (configured_rows others.filtersets.items) at place

-- so it is with each filterset that has a place
abbrev pub ArePlaces : Text → List ConfiguredRow → List (Option Place) → Type 0
ArePlaces file rows places =
    (at : ℕ) (place : Place) → slice_get places at ≡ Some (Some place) → IsPlaceAt file rows at place

-- the place of the filterset at this position, if it has one
abbrev pub place_at : List (Option Place) → ℕ → Option Place
place_at places at = unwrap_or (slice_get places at) None

-- ---- from the text to the file

-- where the piece is that the byte at this offset of the text was read from; the closing delimiter for the end of the text
abbrev pub origin_at : Place → ℕ → Stretch
origin_at place offset = unwrap_or (slice_get place.origins.items offset) (record { from = place.end; to = place.end })

-- The span of the file that a span of the text was read from: from where the piece begins that its first byte was read from to
-- where that of its last byte ends.
abbrev pub file_span : Place → SourceSpan → SourceSpan
file_span place s =
    let from = (origin_at place (offset_of s)).from in
    span from ((if length_of s == 0 then from else (origin_at place (offset_of s + (length_of s - 1))).to) - from)

-- the places among the filtersets of the file with numbers
abbrev pub ArePlacesAmong : Text → List Stretch → List ConfiguredRow → List ConfiguredRow → List (Option Place) → Type 0
ArePlacesAmong file literals rows others places =
    (at : ℕ) (place : Place) → slice_get places at ≡ Some (Some place) → PlaceAt file literals rows others at place
