-- What is written of answers.
use Rattle.std.specs.Prelude.{◌≡◌, false, [], Option, Some, None}
use Rattle.serde_json.specs.{Data.Data, Written.compact_text, Written.has_float}
use Rattle.filterset_display.specs.Frames.{Bytes, framed}

-- what is written of an answer: nothing if there is none, else its text in a frame
abbrev pub Writes : Option Data → Bytes → Type 0
Writes None written = written ≡ []
Writes (Some d) written = (text : Bytes) × (has_float d ≡ false → text ≡ compact_text d) × (written ≡ framed text)
