-- Faults of files.
use Rattle.std.specs.Prelude.{◌≡◌, ◌≢◌, Bool, Option, Some, IfSome, alloc_error, codes, if◌then◌else◌, string_bytes}
use Rattle.std.specs.{Str.IsUtf8, Str.bytes_eq, declared.io.Error.Error}
use Rattle.filterset_display.specs.Columns.{Text}
use Rattle.filterset_json.specs.declared.fault.RunFault.TheVariants.{Memory}
use Rattle.filterset_sources.specs.declared.refusal.SourceRefusal.{SourceRefusal, TheVariants.OutOfMemory}
use Rattle.filterset_loading.specs.declared.fault.CommandFault.{CommandFault, TheVariants.File, TheVariants.Run}
use Rattle.filterset_loading.specs.declared.fault.FileFault.{FileFault}
use Rattle.filterset_loading.specs.declared.fault.FileFault.TheVariants.{Unread, NotText, Refused}
use Rattle.filterset_loading.specs.declared.fault.FileRole.{FileRole}

-- the path that stands for standard input
abbrev pub is_input : Text → Bool
is_input path = bytes_eq path (codes "-")

-- what faults call standard input
abbrev pub input_name : Text
input_name = codes "standard input"

-- what faults call the file at a path
abbrev pub name_of : Text → Text
name_of path = if is_input path then input_name else path

-- what the file at a path has, where standard input has this text
abbrev pub content_of : (Text → Option Text) → Text → Text → Option Text
content_of content input path = if is_input path then Some input else content path

-- the bytes are the content of a file, as far as that is known
abbrev pub IsContent : Option Text → Text → Type 0
IsContent content bytes = IfSome content (λ known. bytes ≡ known)

-- P holds of the fault, or it is out of memory
abbrev pub OrMemory : (CommandFault → Type 0) → CommandFault → Type 0
OrMemory P (Run (Memory refused)) = Unit {0}
OrMemory P fault = P fault

-- the fault is this one of the file at this path, which is read for this
abbrev pub IsFaultAt : FileRole → Text → FileFault → CommandFault → Type 0
IsFaultAt role path fault (File own at is) = (own ≡ role) × (string_bytes at ≡ name_of path) × (is ≡ fault)
IsFaultAt role path fault _ = ⊥

-- why a file is not used: reading it fails so, its content is not UTF-8, or its text is refused
abbrev pub IsUnused : Option Text → (Error → Type 0) → (Text → FileFault → Type 0) → FileFault → Type 0
IsUnused content fails refuses (Unread error) = fails error
IsUnused content fails refuses NotText = (bytes : Text) × IsContent content bytes × ¬ IsUtf8 bytes
IsUnused content fails refuses fault = (text : Text) × IsContent content text × refuses text fault

-- the text is refused by what reads it
abbrev pub BySource : (Text → SourceRefusal → Type 0) → Text → FileFault → Type 0
BySource refuses text (Refused refusal) = refuses text refusal × (refusal ≢ OutOfMemory alloc_error)
BySource refuses text _ = ⊥

-- the fault names the file at this path, what it is read for, and why it is not used
abbrev pub IsFileFault : (Text → Option Text) → (Text → Error → Type 0) → FileRole → (Text → FileFault → Type 0) → Text
    → CommandFault → Type 0
IsFileFault content fails role refuses path (File own at fault) =
    (own ≡ role) × (string_bytes at ≡ name_of path) × IsUnused (content path) (fails path) refuses fault
IsFileFault content fails role refuses path _ = ⊥
