-- What messages of a client say.
use Rattle.std.specs.Prelude.{◌≡◌, ℕ, ℤ, List, [], ◌∷◌, Option, None, Some, IsSome, IsUtf8, MatchOption, codes, map, option_and_then, option_map, string_bytes, unwrap_or, if◌then◌else◌}
use Rattle.std.specs.Str.{bytes_eq}
use Rattle.serde_json.specs.Data.{Data, Items, no_items, item}
use Rattle.serde_json.specs.{Find.as_str, Find.get, Read.read, View.view}
use Rattle.filterset_display.specs.{Documents.DocumentRow, Documents.row_of, Inquiries.inquiry_in, Positions.Text}
use Rattle.filterset_display.specs.Values.{array_at, integer_at, range_in, text_at}
use Rattle.filterset_display.specs.declared.{edits.Change.Change, message.Incoming.Incoming}
use Rattle.filterset_display.specs.declared.message.Incoming.TheVariants.{Request, Notification, Response, NotJson, NotMessage}
use Rattle.filterset_display.specs.declared.message.Call.{Call}
use Rattle.filterset_display.specs.declared.message.Call.TheVariants.{Initialize, Shutdown, About, Wrong, Unknown}
use Rattle.filterset_display.specs.declared.{message.Notice.Notice, inquiry.Inquiry.Inquiry, positions.Encoding.Encoding}
use Rattle.filterset_display.specs.declared.positions.Encoding.TheVariants.{Utf8, Utf16, Utf32}
use Rattle.filterset_display.specs.declared.positions.Range.{Range}
use Rattle.filterset_display.specs.declared.message.Notice.TheVariants as notices

-- ---- changes

-- a change as the protocol has it: the range that is replaced, if not all is, and the new text
pub record ChangeRow : Type 0 where
  pub range : Option Range
  pub text : Text

abbrev pub change_row : Change → ChangeRow
change_row change = record { range = change.range; text = string_bytes change.text }

-- the range of a change, which may have none
abbrev pub changed_range : Option Data → Option (Option Range)
changed_range None = Some None
changed_range (Some d) = option_map Some (range_in d)

abbrev pub change_in : Data → Option ChangeRow
change_in d = option_and_then (λ range. option_map (λ text. record { range = range; text = text }) (text_at (codes "/text") d))
    (changed_range (get (codes "range") d))

abbrev pub changes_in : Items → Option (List ChangeRow)
changes_in no_items = Some []
changes_in (item d ds) = option_and_then (λ change. option_map (λ changes. change ∷ changes) (changes_in ds)) (change_in d)

-- ---- notifications

-- what a notification says
pub data Said : Type 0 where
  exits : Said
  opens : DocumentRow → ℤ → Said
  changes : Text → ℤ → List ChangeRow → Said
  closes : Text → Said

abbrev pub said_of : Notice → Option Said
said_of notices.Exit = Some exits
said_of (notices.Opened document) = Some (opens (row_of document) document.version)
said_of (notices.Changed revision) =
    Some (changes (string_bytes revision.uri) revision.version (map change_row revision.changes.items))
said_of (notices.Closed uri) = Some (closes (string_bytes uri))
said_of notices.Ignored = None

abbrev pub uri_in : Data → Option Text
uri_in d = text_at (codes "/params/textDocument/uri") d

abbrev pub version_in : Data → Option ℤ
version_in d = integer_at (codes "/params/textDocument/version") d

abbrev pub opened_in : Data → Option Said
opened_in d = option_and_then (λ uri. option_and_then (λ language. option_and_then (λ version. option_map (λ text.
    opens (record { uri = uri; language = language; text = text }) version) (text_at (codes "/params/textDocument/text") d))
    (version_in d)) (text_at (codes "/params/textDocument/languageId") d)) (uri_in d)

abbrev pub changed_in : Data → Option Said
changed_in d = option_and_then (λ uri. option_and_then (λ version. option_map (λ list. changes uri version list)
    (option_and_then changes_in (array_at (codes "/params/contentChanges") d))) (version_in d)) (uri_in d)

-- what the notification of this method says: nothing if the method is not known, or its parameters are wrong
abbrev pub said_in : Text → Data → Option Said
said_in method d =
    if bytes_eq method (codes "exit") then Some exits
    else if bytes_eq method (codes "textDocument/didOpen") then opened_in d
    else if bytes_eq method (codes "textDocument/didChange") then changed_in d
    else if bytes_eq method (codes "textDocument/didClose") then option_map closes (uri_in d)
    else None

-- ---- requests

abbrev pub encoding_named : Text → Option Encoding
encoding_named name =
    if bytes_eq name (codes "utf-8") then Some Utf8
    else if bytes_eq name (codes "utf-16") then Some Utf16
    else if bytes_eq name (codes "utf-32") then Some Utf32
    else None

-- the first encoding of a client's list that is known, or UTF-16
abbrev pub first_known : Items → Encoding
first_known no_items = Utf16
first_known (item d ds) = unwrap_or (option_and_then encoding_named (as_str d)) (first_known ds)

abbrev pub encoding_in : Data → Encoding
encoding_in d =
    unwrap_or (option_map first_known (array_at (codes "/params/capabilities/general/positionEncodings") d)) Utf16

-- what a request asks for
pub data CallRow : Type 0 where
  begins : Encoding → CallRow
  shuts_down : CallRow
  asks_about : Text → Inquiry → CallRow
  is_wrong : CallRow
  is_unknown : CallRow

abbrev pub call_row : Call → CallRow
call_row (Initialize encoding) = begins encoding
call_row Shutdown = shuts_down
call_row (About uri inquiry) = asks_about (string_bytes uri) inquiry
call_row Wrong = is_wrong
call_row Unknown = is_unknown

-- a request about the document of an address, if there is an address
abbrev pub about : Option Text → Option Inquiry → CallRow
about uri inquiry = unwrap_or (option_and_then (λ u. option_map (asks_about u) inquiry) uri) is_wrong

-- what the request of this method asks for
abbrev pub call_in : Text → Data → CallRow
call_in method d =
    if bytes_eq method (codes "initialize") then begins (encoding_in d)
    else if bytes_eq method (codes "shutdown") then shuts_down
    else unwrap_or (option_map (about (uri_in d)) (inquiry_in method d)) is_unknown

-- ---- messages

abbrev pub method_of : Data → Option Text
method_of d = option_and_then as_str (get (codes "method") d)

-- What a message is: with a method a request, if it has an id, and a notification, if it has none; without one a response, if
-- it has an id.
abbrev pub IsSaid : Data → Incoming → Type 0
IsSaid d (Request id call) =
    (get (codes "id") d ≡ Some (view id)) × ((method : Text) × (method_of d ≡ Some method) × (call_row call ≡ call_in method d))
IsSaid d (Notification notice) =
    (get (codes "id") d ≡ None) × ((method : Text) × (method_of d ≡ Some method) × (said_of notice ≡ said_in method d))
IsSaid d Response = (method_of d ≡ None) × IsSome (get (codes "id") d)
IsSaid d NotMessage = (method_of d ≡ None) × (get (codes "id") d ≡ None)
IsSaid d NotJson = ⊥

-- what JSON the bytes are, if they are any
abbrev pub IsParsed : List ℕ → Option Data → Type 0
IsParsed content None = IsUtf8 content → read content ≡ None
IsParsed content (Some d) = IsUtf8 content × (read content ≡ Some d)

-- what the bytes of a message say
abbrev pub IsIncoming : List ℕ → Incoming → Type 0
IsIncoming content incoming = (parsed : Option Data) × IsParsed content parsed
    × MatchOption parsed (incoming ≡ NotJson) (λ d. IsSaid d incoming)
