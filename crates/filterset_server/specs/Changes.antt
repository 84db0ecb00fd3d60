-- Changes of files that give a filterset a new text, and change no other.
use Rattle.std.specs.Prelude.{Bool, true, false, List, [], ◌∷◌, Option, None, Some, chars, map, slice_set}
use Rattle.std.specs.List.{flat_map}
use Rattle.filterset_entries.specs.Checked.{TextRow}
use Rattle.filterset_entries.specs.Placements.{TextSpot, line, literal, span_in}
use Rattle.filterset_server.specs.Becoming.{Becomes}
use Rattle.filterset_server.specs.Edits.{basic_char, quoted}
use Rattle.filterset_documents.specs.Filtersets.{stretch_span}
use Rattle.filterset_display.specs.{Edits.AreChanged, Positions.Text, declared.edits.Change.Change}
use Rattle.filterset_faults.specs.declared.{error.ParseSingleError.ParseSingleError, span.SourceSpan.SourceSpan}
use Rattle.filterset_server.specs.Subjects.{TargetRow}

-- the span of the file that is replaced: what this span of the text was read from, or the whole string if no fault is mended
abbrev pub changed_span : TextSpot → Option ParseSingleError → SourceSpan → SourceSpan
changed_span (literal place) None s = stretch_span place.literal
changed_span spot fault s = span_in spot s

-- what is written there: the text as it is, or with escapes; and as a string of TOML if no fault is mended
abbrev pub changed_text : Bool → TextSpot → Option ParseSingleError → Text → Text
changed_text is_basic (literal place) None text = quoted is_basic text
changed_text true (literal place) (Some fault) text = flat_map basic_char (chars text)
changed_text false (literal place) (Some fault) text = text
changed_text is_basic (line stretch) fault text = text

abbrev pub texts_of : List TextRow → List Text
texts_of rows = map (λ row. row.text) rows

-- Whether the change, made as the protocol defines it, gives the filterset the new text, and changes no other.
abbrev pub Gets : TargetRow → Text → Change → Bool → Type 0
Gets target new change answer = let subject = target.subject in
    (after : Text) × AreChanged subject.encoding subject.text (change ∷ []) after
    × Becomes subject.content (slice_set (texts_of subject.content.rows) target.at new) after answer
