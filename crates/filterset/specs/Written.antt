-- Where answers are written.
use Rattle.std.specs.Prelude.{◌≡◌, ◌++◌, ◌<◌, Bool, true, false, Option, length}
use Rattle.std.specs.Io.KnownBytes.{Appends}
use Rattle.filterset_entries.specs.declared.text.Ending.{Ending, TheVariants.Faulty}
use Rattle.filterset_display.specs.Columns.{Text}
use Rattle.filterset_loading.specs.declared.request.Request.{Request, TheVariants.Check}

-- the answer has faults that keep the command from doing what it is asked for; the faults that `check` finds do not
abbrev pub is_refusal : Request → Ending → Bool
is_refusal (Check kind form texts paths) ending = false
is_refusal request Faulty = true
is_refusal request ending = false

-- all of the text is written, or a beginning of it, and not the whole
abbrev pub AppendsPart : Bool → Option Text → Option Text → Text → Type 0
AppendsPart true old new text = Appends old new text
AppendsPart false old new text =
    (front : Text) × (rest : Text) × (text ≡ front ++ rest) × (0 < length rest) × Appends old new front
