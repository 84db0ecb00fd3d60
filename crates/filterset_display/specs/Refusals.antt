-- What is said when memory runs out, and what the server then still knows.
use Rattle.std.specs.Prelude.{◌≡◌, ◌⊎◌, [], ◌∷◌, Option, Some, None, MatchOption, codes, string_bytes}
use Rattle.serde_json.specs.{Data.Data, Data.null, Data.number, Data.unsigned, Data.string, View.view}
use Rattle.filterset_display.specs.{Documents.without_document, Frames.Bytes}
use Rattle.filterset_display.specs.Machine.{Answers, Says, State, error_data, internal_error, published_data}
use Rattle.filterset_display.specs.{Messages.IsIncoming, Positions.Text, Values.object_of, Written.Writes}
use Rattle.filterset_display.specs.declared.message.Incoming.{Incoming, TheVariants.Request, TheVariants.Notification}
use Rattle.filterset_display.specs.declared.message.Notice.{Notice}
use Rattle.filterset_display.specs.declared.message.Notice.TheVariants.{Opened, Changed, Closed}

-- the answer to a request for which memory ran out
abbrev pub refused_data : Data → Data
refused_data id = error_data id internal_error (codes "out of memory")

abbrev pub start_position : Data
start_position = object_of ((codes "character", number (unsigned 0)) ∷ (codes "line", number (unsigned 0)) ∷ [])

-- an error at the start of a document that the server has forgotten
abbrev pub forgotten_diagnostic : Data
forgotten_diagnostic = object_of ((codes "code", string (codes "memory"))
    ∷ (codes "message", string (codes "out of memory: close this document and open it again"))
    ∷ (codes "range", object_of ((codes "end", start_position) ∷ (codes "start", start_position) ∷ []))
    ∷ (codes "severity", number (unsigned 1)) ∷ (codes "source", string (codes "filterset")) ∷ [])

-- the notification that says so
abbrev pub forgotten_data : Text → Data
forgotten_data uri = published_data uri None (forgotten_diagnostic ∷ [])

-- the document that a notification is about
abbrev pub uri_of : Notice → Option Text
uri_of (Opened document) = Some (string_bytes document.uri)
uri_of (Changed revision) = Some (string_bytes revision.uri)
uri_of (Closed uri) = Some (string_bytes uri)
uri_of notice = None

-- the state before a message, or after it
abbrev pub IsAround : Says → State → Incoming → State → Type 0
IsAround S old incoming state = (state ≡ old) ⊎ ((answer : Option Data) × Answers S old incoming answer state)

-- The server no longer knows the document of an address. What the client has there may be another text.
abbrev pub Forgets : Text → State → State → Type 0
Forgets uri old new = (new.phase ≡ old.phase) × (new.documents ≡ without_document uri old.documents)

abbrev pub ForgetsAll : State → State → Type 0
ForgetsAll old new = (new.phase ≡ old.phase) × (new.documents ≡ [])

-- What is answered to a message if memory runs out, and the state after it. A request gets an error, and changes nothing. The
-- document of a notification is forgotten, and its one diagnostic says so.
abbrev pub RunsOut : Says → State → Incoming → Option Data → State → Type 0
RunsOut S old (Request id call) answer new = (answer ≡ Some (refused_data (view id))) × (new ≡ old)
RunsOut S old (Notification notice) answer new = MatchOption (uri_of notice) ⊥ (λ uri. (answer ≡ Some (forgotten_data uri))
    × ((mid : State) × IsAround S old (Notification notice) mid × Forgets uri mid new))
RunsOut S old incoming answer new = ⊥

-- what is written for a message by its answer, and the state after it
abbrev pub WritesAnswer : Says → State → Incoming → Bytes → State → Type 0
WritesAnswer S old incoming written new = (answer : Option Data) × Writes answer written × Answers S old incoming answer new

-- what is written for a message, and the state after it: of its answer, or that memory ran out
abbrev pub AnswersOrRunsOut : Says → State → Incoming → Bytes → State → Type 0
AnswersOrRunsOut S old incoming written new = (answer : Option Data) × Writes answer written
    × (Answers S old incoming answer new ⊎ RunsOut S old incoming answer new)

-- What is written for the bytes of a message, and the state after it. If memory is too short to read the message, that is an
-- error without an id and, since the message may change a document, all are forgotten.
abbrev pub Exchange : Says → State → Bytes → Bytes → State → Type 0
Exchange S old message written new =
    ((incoming : Incoming) × IsIncoming message incoming × AnswersOrRunsOut S old incoming written new)
    ⊎ (Writes (Some (refused_data null)) written × ForgetsAll old new)
