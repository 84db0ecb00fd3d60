-- How a session begins: the first message of a stream, and the options that it gives the server.
use Rattle.std.specs.Prelude.{◌≡◌, ◌⊎◌, ◌&&◌, ◌++◌, [], ◌∷◌, false, Option, None, codes, is_some, option_and_then, if◌then◌else◌}
use Rattle.std.specs.{Io.KnownBytes.Consumes, Io.KnownBytes.IsAtEnd, Option.option_map_or, Str.bytes_eq}
use Rattle.serde_json.specs.{Data.Data, Data.number, Data.unsigned, Data.string, Find.get, Find.pointer}
use Rattle.filterset_display.specs.Frames.{Bytes, IsFrame, IsMalformed, IsPartial}
use Rattle.filterset_display.specs.{Machine.notification_data, Messages.IsParsed, Messages.method_of, Positions.Text}
use Rattle.filterset_display.specs.Values.{object_of}

-- the options of a message, if it is the request `initialize`
abbrev pub options_in : Data → Option Data
options_in d =
    if option_map_or (λ name. bytes_eq name (codes "initialize")) (method_of d) false && is_some (get (codes "id") d)
    then pointer (codes "/params/initializationOptions") d
    else None

-- the options that the bytes of a message give
abbrev pub GivesOptions : Bytes → Option Data → Type 0
GivesOptions message options =
    (parsed : Option Data) × IsParsed message parsed × (options ≡ option_and_then options_in parsed)

-- the stream begins with this message, which came whole
abbrev pub BeginsWith : Bytes → Bytes → Type 0
BeginsWith stream message = (frame : Bytes) × (rest : Bytes) × IsFrame frame message × (stream ≡ frame ++ rest)

-- the first message of the stream gives these options; or no message begins it, however it goes on, and so there are none
abbrev pub Settles : Bytes → Option Data → Type 0
Settles stream options = ((message : Bytes) × BeginsWith stream message × GivesOptions message options)
    ⊎ ((options ≡ None) × IsMalformed stream)

-- What was read is the opening, in which the first message gives these options. There are none if the stream has no message
-- next, or came to its end before one came whole.
abbrev pub IsOpening : Option Bytes → Option Bytes → Bytes → Option Data → Type 0
IsOpening left_old left_new opening options = Consumes left_old left_new opening
    × (Settles opening options ⊎ ((options ≡ None) × IsPartial opening × IsAtEnd left_new))

-- the notification that shows the user an error (1)
abbrev pub shown_data : Text → Data
shown_data message = notification_data (codes "window/showMessage")
    (object_of ((codes "message", string message) ∷ (codes "type", number (unsigned 1)) ∷ []))
