-- The server as a machine: what it answers to a message in a phase, and its state after that.
use Rattle.std.specs.Prelude.{◌≡◌, ℤ, negsuc, true, false, List, [], ◌∷◌, Option, Some, None, MatchOption, codes, map, string_bytes}
use Rattle.std.specs.Option.{option_map_or}
use Rattle.serde_json.specs.Data.{Data, null, number, unsigned, boolean, string, array, object, no_members}
use Rattle.serde_json.specs.{Find.of_integer, View.view, View.items_of}
use Rattle.filterset_display.specs.Documents.{DocumentRow, IsRevised, document_of, put_document, row_of, without_document}
use Rattle.filterset_display.specs.{Positions.Text, Values.Pair, Values.object_of}
use Rattle.filterset_display.specs.declared.{documents.Document.Document, inquiry.Inquiry.Inquiry, message.Call.Call}
use Rattle.filterset_display.specs.declared.message.Call.TheVariants.{Initialize, Shutdown, About, Wrong, Unknown}
use Rattle.filterset_display.specs.declared.message.Incoming.{Incoming}
use Rattle.filterset_display.specs.declared.message.Incoming.TheVariants.{Request, Notification, Response, NotJson, NotMessage}
use Rattle.filterset_display.specs.declared.message.Notice.{Notice}
use Rattle.filterset_display.specs.declared.message.Notice.TheVariants.{Exit, Opened, Changed, Closed}
use Rattle.filterset_display.specs.declared.positions.Encoding.{Encoding}
use Rattle.filterset_display.specs.declared.positions.Encoding.TheVariants.{Utf8, Utf16, Utf32}
use Rattle.filterset_display.specs.declared.phase.Phase.{Phase}
use Rattle.filterset_display.specs.declared.phase.Phase.TheVariants.{New, Running, Stopped, Over}
use Rattle.filterset_display.specs.declared.server.Server.{Server}

-- what a server says of documents: which diagnostics they have, and which results requests about them
pub record Says : Type 1 where
  pub has : Encoding → DocumentRow → List Data → Type 0
  pub gives : Encoding → DocumentRow → Inquiry → Data → Type 0

-- ---- answers to requests

-- the codes of errors: -32700, -32600, -32601, -32602, -32603 and -32002
abbrev pub parse_error : ℤ
parse_error = negsuc 32699

abbrev pub invalid_request : ℤ
invalid_request = negsuc 32599

abbrev pub method_not_found : ℤ
method_not_found = negsuc 32600

abbrev pub invalid_params : ℤ
invalid_params = negsuc 32601

abbrev pub internal_error : ℤ
internal_error = negsuc 32602

abbrev pub server_not_initialized : ℤ
server_not_initialized = negsuc 32001

-- each message has this member
abbrev pub version_of_rpc : Pair
version_of_rpc = (codes "jsonrpc", string (codes "2.0"))

-- the answer to the request with this id is an error
abbrev pub error_data : Data → ℤ → Text → Data
error_data id code message =
    let error = object_of ((codes "code", number (of_integer code)) ∷ (codes "message", string message) ∷ []) in
    object_of ((codes "error", error) ∷ (codes "id", id) ∷ version_of_rpc ∷ [])

-- the answer to the request with this id is a result
abbrev pub result_data : Data → Data → Data
result_data id result = object_of ((codes "id", id) ∷ version_of_rpc ∷ (codes "result", result) ∷ [])

abbrev pub encoding_name : Encoding → Text
encoding_name Utf8 = codes "utf-8"
encoding_name Utf16 = codes "utf-16"
encoding_name Utf32 = codes "utf-32"

-- tokens have these types, counted from 0, and no modifiers
abbrev pub token_options : Data
token_options =
    let types = codes "enumMember" ∷ codes "function" ∷ codes "keyword" ∷ codes "operator" ∷ codes "regexp" ∷ codes "string" ∷ [] in
    let legend = object_of ((codes "tokenModifiers", array (items_of [])) ∷ (codes "tokenTypes", array (items_of (map string types))) ∷ []) in
    object_of ((codes "full", boolean true) ∷ (codes "legend", legend) ∷ [])

-- what a server can do: it counts columns so, and takes changes of documents (2)
abbrev pub capabilities : Encoding → Data
capabilities encoding = object_of (
    (codes "codeActionProvider", boolean true) ∷ (codes "completionProvider", object no_members)
    ∷ (codes "documentFormattingProvider", boolean true) ∷ (codes "documentSymbolProvider", boolean true)
    ∷ (codes "foldingRangeProvider", boolean true) ∷ (codes "hoverProvider", boolean true)
    ∷ (codes "positionEncoding", string (encoding_name encoding)) ∷ (codes "semanticTokensProvider", token_options)
    ∷ (codes "textDocumentSync", object_of ((codes "change", number (unsigned 2)) ∷ (codes "openClose", boolean true) ∷ [])) ∷ [])

-- the result of `initialize`
abbrev pub description : Encoding → Data
description encoding = object_of ((codes "capabilities", capabilities encoding)
    ∷ (codes "serverInfo", object_of ((codes "name", string (codes "filterset")) ∷ [])) ∷ [])

-- the result of a request about the document of an address: null if it is not open
abbrev pub Responds : Says → Encoding → List Document → Text → Inquiry → Data → Type 0
Responds S encoding documents uri inquiry result =
    MatchOption (document_of uri documents) (result ≡ null) (λ document. S.gives encoding (row_of document) inquiry result)

-- the answer to a request in a phase, while these documents are open
abbrev pub Replies : Says → Phase → List Document → Call → Data → Data → Type 0
Replies S New documents (Initialize encoding) id answer = answer ≡ result_data id (description encoding)
Replies S New documents call id answer = answer ≡ error_data id server_not_initialized (codes "not initialized")
Replies S (Running encoding) documents (Initialize other) id answer =
    answer ≡ error_data id invalid_request (codes "initialized already")
Replies S (Running encoding) documents Shutdown id answer = answer ≡ result_data id null
Replies S (Running encoding) documents (About uri inquiry) id answer = (result : Data)
    × Responds S encoding documents (string_bytes uri) inquiry result × (answer ≡ result_data id result)
Replies S (Running encoding) documents Wrong id answer = answer ≡ error_data id invalid_params (codes "wrong parameters")
Replies S (Running encoding) documents Unknown id answer = answer ≡ error_data id method_not_found (codes "unknown method")
Replies S phase documents call id answer = answer ≡ error_data id invalid_request (codes "shut down")

-- the phase after a request
abbrev pub phase_after : Phase → Call → Phase
phase_after New (Initialize encoding) = Running encoding
phase_after (Running encoding) Shutdown = Stopped
phase_after phase call = phase

-- ---- notifications

-- a notification of the server
abbrev pub notification_data : Text → Data → Data
notification_data method params =
    object_of (version_of_rpc ∷ (codes "method", string method) ∷ (codes "params", params) ∷ [])

-- the diagnostics of a document, or of a version of it
abbrev pub published_data : Text → Option ℤ → List Data → Data
published_data uri version diagnostics = notification_data (codes "textDocument/publishDiagnostics") (object_of
    ((codes "diagnostics", array (items_of diagnostics)) ∷ (codes "uri", string uri)
    ∷ option_map_or (λ v. (codes "version", number (of_integer v)) ∷ []) version []))

-- the diagnostics that a document has
abbrev pub Publishes : Says → Encoding → Document → Option Data → Type 0
Publishes S encoding document answer = (diagnostics : List Data) × S.has encoding (row_of document) diagnostics
    × (answer ≡ Some (published_data (string_bytes document.uri) (Some document.version) diagnostics))

-- what is answered to a notification about documents, and the documents after it
abbrev pub Notifies : Says → Encoding → Notice → List Document → Option Data → List Document → Type 0
Notifies S encoding (Opened document) old answer new =
    Publishes S encoding document answer × (new ≡ put_document document old)
Notifies S encoding (Changed revision) old answer new =
    MatchOption (document_of (string_bytes revision.uri) old) ((answer ≡ None) × (new ≡ old))
    (λ document. (revised : Document) × IsRevised encoding document revision revised
    × Publishes S encoding revised answer × (new ≡ put_document revised old))
Notifies S encoding (Closed uri) old answer new =
    (answer ≡ Some (published_data (string_bytes uri) None [])) × (new ≡ without_document (string_bytes uri) old)
Notifies S encoding notice old answer new = (answer ≡ None) × (new ≡ old)

-- ---- messages

-- what the server is in: a phase, and its documents
pub record State : Type 0 where
  pub phase : Phase
  pub documents : List Document

abbrev pub state_of : Server → State
state_of server = record { phase = server.phase; documents = server.documents.items }

-- the phase after `exit`, which is in order only if the server was shut down
abbrev pub phase_at_exit : Phase → Phase
phase_at_exit (Over in_order) = Over in_order
phase_at_exit Stopped = Over true
phase_at_exit phase = Over false

-- documents are kept while the session goes on
abbrev pub Keeps : Says → Phase → Notice → List Document → Option Data → List Document → Type 0
Keeps S (Running encoding) notice old answer new = Notifies S encoding notice old answer new
Keeps S phase notice old answer new = (answer ≡ None) × (new ≡ old)

-- what is answered to a message, and the state after it
abbrev pub Answers : Says → State → Incoming → Option Data → State → Type 0
Answers S old (Request id call) answer new =
    ((reply : Data) × Replies S old.phase old.documents call (view id) reply × (answer ≡ Some reply))
    × (new.phase ≡ phase_after old.phase call) × (new.documents ≡ old.documents)
Answers S old (Notification Exit) answer new =
    (answer ≡ None) × (new.phase ≡ phase_at_exit old.phase) × (new.documents ≡ old.documents)
Answers S old (Notification notice) answer new =
    Keeps S old.phase notice old.documents answer new.documents × (new.phase ≡ old.phase)
Answers S old Response answer new = (answer ≡ None) × (new ≡ old)
Answers S old NotJson answer new = (answer ≡ Some (error_data null parse_error (codes "not JSON"))) × (new ≡ old)
Answers S old NotMessage answer new = (answer ≡ Some (error_data null invalid_request (codes "no message"))) × (new ≡ old)
