-- Whole sessions: what is written for the messages of a stream.
use Rattle.std.specs.Prelude.{◌≡◌, ◌<◌, ◌++◌, Bool, false, true, List, [], ◌∷◌, Option, length}
use Rattle.std.specs.Io.KnownBytes.{Appends, Consumes, IsAtEnd}
use Rattle.filterset_display.specs.Frames.{Bytes, IsFrame, IsMalformed, IsPartial}
use Rattle.filterset_display.specs.{Machine.Says, Machine.State, Refusals.Exchange, declared.ending.Ending.Ending}
use Rattle.filterset_display.specs.declared.ending.Ending.TheVariants.{Exit, InputEnded, Malformed}
use Rattle.filterset_display.specs.declared.phase.Phase.TheVariants.{New, Over}

-- the stream is these messages, each in a frame, and then the rest
abbrev pub Splits : Bytes → List Bytes → Bytes → Type 0
Splits stream [] rest = stream ≡ rest
Splits stream (message ∷ messages) rest =
    (frame : Bytes) × (after : Bytes) × IsFrame frame message × (stream ≡ frame ++ after) × Splits after messages rest

-- what is written for messages, one after the other
abbrev pub Session : Says → State → List Bytes → Bytes → State → Type 0
Session S old [] written new = (written ≡ []) × (new ≡ old)
Session S old (message ∷ messages) written new =
    (front : Bytes) × (rest : Bytes) × (mid : State) × (written ≡ front ++ rest)
    × Exchange S old message front mid × Session S mid messages rest new

-- How a session ends: in a phase, before a rest of its stream. At the end of the input each message that came whole is answered.
abbrev pub IsEnding : Ending → State → Bytes → Type 0
IsEnding (Exit in_order) state rest = state.phase ≡ Over in_order
IsEnding Malformed state rest = IsMalformed rest
IsEnding InputEnded state rest = IsPartial rest

-- From the start of a session, what was read are messages and a rest, and what was written is what is written for these messages.
abbrev pub IsServing : Says → Option Bytes → Option Bytes → Option Bytes → Option Bytes → State → Bytes → Type 0
IsServing S left_old left_new taken_old taken_new state rest =
    (read : Bytes) × (messages : List Bytes) × (written : Bytes)
    × Consumes left_old left_new read × Splits read messages rest
    × Session S (record { phase = New; documents = [] }) messages written state × Appends taken_old taken_new written

-- the session was served so, and ended so
abbrev pub Served : Says → Option Bytes → Option Bytes → Option Bytes → Option Bytes → Ending → Type 0
Served S left_old left_new taken_old taken_new ending =
    (state : State) × (rest : Bytes) × IsServing S left_old left_new taken_old taken_new state rest × IsEnding ending state rest

-- a session that was served up to this state and rest was served on, up to the new ones
abbrev pub GoesOn : Says → Option Bytes → Option Bytes → Option Bytes → Option Bytes → State → Bytes → State → Bytes → Type 0
GoesOn S left_old left_new taken_old taken_new old waiting new rest = (left taken : Option Bytes)
    → IsServing S left left_old taken taken_old old waiting → IsServing S left left_new taken taken_new new rest

-- what is read of an input grew by a piece, or no piece was left
abbrev pub ReadsPiece : Option Bytes → Option Bytes → Bytes → Bytes → Bool → Type 0
ReadsPiece left_old left_new old new found =
    (piece : Bytes) × Consumes left_old left_new piece × (new ≡ old ++ piece)
    × (found ≡ false → (piece ≡ []) × IsAtEnd left_new) × (found ≡ true → 0 < length piece)
