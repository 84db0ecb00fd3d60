-- Sessions of editors, with a workspace or without.
use Rattle.std.specs.Prelude.{◌≡◌, ◌⊎◌, ◌||◌, Bool, IsTrue, false, true, [], Option, None, Some, codes, option_and_then, if◌then◌else◌}
use Rattle.std.specs.{Io.KnownBytes.Appends, declared.io.Error.Error}
use Rattle.serde_json.specs.{Data.Data, Data.null, Find.as_str, Find.get}
use Rattle.filterset_display.specs.Columns.{Text}
use Rattle.filterset_display.specs.{Frames.Bytes, Openings.IsOpening, Openings.shown_data, Sessions.Served}
use Rattle.filterset_display.specs.{Written.Writes, declared.ending.Ending.Ending}
use Rattle.filterset_json.specs.declared.fault.RunFault.TheVariants.{Read, Write}
use Rattle.filterset_offers.specs.Workspaces.{WorkspaceRow}
use Rattle.filterset_sources.specs.declared.list.RunIgnored.TheVariants.{All}
use Rattle.filterset.specs.Responses.{says}
use Rattle.filterset_loading.specs.Workspaces.{IsWorkspaceFault, IsWorkspaceIn}
use Rattle.filterset_loading.specs.declared.fault.CommandFault.{CommandFault, TheVariants.Run}
use Rattle.filterset_loading.specs.declared.workspace.{Workspace.Workspace, WorkspacePaths.WorkspacePaths}
use Rattle.filterset.specs.declared.greeting.Named.{Named}
use Rattle.filterset.specs.declared.greeting.Named.TheVariants as named

-- what an editor is told of a workspace
abbrev pub row_of : Workspace → WorkspaceRow
row_of workspace = record { packages = workspace.graph; suites = workspace.list.suites.items }

-- the workspace that the files at these paths describe, if they are given
abbrev pub IsKnownIn : (Text → Option Text) → Option WorkspacePaths → Option WorkspaceRow → Type 0
IsKnownIn content None known = known ≡ None
IsKnownIn content (Some paths) known =
    (workspace : Workspace) × IsWorkspaceIn content paths workspace × (known ≡ Some (row_of workspace))

-- the session of a server that says this of documents, in this workspace
abbrev pub ServesIn : Option WorkspaceRow → Option Bytes → Option Bytes → Option Bytes → Option Bytes → Ending → Type 0
ServesIn known left_old left_new taken_old taken_new ending =
    Served (says known) left_old left_new taken_old taken_new ending

-- ---- a workspace that the client's options name

-- which paths options give: none, that of cargo's metadata and that of nextest's list, or not both
pub data NamedPaths : Type 0 where
  no_paths : NamedPaths
  both_paths : Text → Text → NamedPaths
  wrong_paths : NamedPaths

-- the key has a value other than null
abbrev pub is_given : Option Data → Bool
is_given None = false
is_given (Some null) = false
is_given (Some d) = true

abbrev pub path_at : Text → Data → Option Text
path_at key d = option_and_then as_str (get key d)

abbrev pub named_paths : Option Text → Option Text → Bool → NamedPaths
named_paths (Some metadata) (Some list) given = both_paths metadata list
named_paths (Some metadata) None given = wrong_paths
named_paths None list given = if given then wrong_paths else no_paths

abbrev pub paths_in : Data → NamedPaths
paths_in d = named_paths (path_at (codes "cargoMetadata") d) (path_at (codes "nextestList") d)
    (is_given (get (codes "cargoMetadata") d) || is_given (get (codes "nextestList") d))

abbrev pub paths_of : Option Data → NamedPaths
paths_of None = no_paths
paths_of (Some options) = paths_in options

-- an error is shown to the user
abbrev pub Shows : Bytes → Type 0
Shows shown = (message : Text) × Writes (Some (shown_data message)) shown

-- the workspace that these files describe; or one of them is not used, which is shown
abbrev pub GreetsFrom : (Text → Option Text) → (Text → Error → Type 0) → WorkspacePaths → Option WorkspaceRow → Bytes → Type 0
GreetsFrom content fails paths known shown = (IsKnownIn content (Some paths) known × (shown ≡ []))
    ⊎ ((fault : CommandFault) × IsWorkspaceFault content fails paths fault × (known ≡ None) × Shows shown)

-- the workspace that is named, all of whose tests count, and what is written before the session's answers
abbrev pub Greets : (Text → Option Text) → (Text → Error → Type 0) → NamedPaths → Option WorkspaceRow → Bytes → Type 0
Greets content fails no_paths known shown = (known ≡ None) × (shown ≡ [])
Greets content fails (both_paths metadata list) known shown = (paths : WorkspacePaths) × (paths.metadata.now ≡ metadata)
    × (paths.list.now ≡ list) × (paths.run_ignored ≡ All) × GreetsFrom content fails paths known shown
Greets content fails wrong_paths known shown = (known ≡ None) × Shows shown

-- ---- sessions

-- the session in the workspace that the files at these paths describe, or else in the one that the client's first message
-- names, if it names one
abbrev pub Serves : (Text → Option Text) → (Text → Error → Type 0) → Option WorkspacePaths → Option Bytes → Option Bytes
    → Option Bytes → Option Bytes → Ending → Type 0
Serves content fails None left_old left_new taken_old taken_new ending =
    (opening : Bytes) × (left : Option Bytes) × (options : Option Data) × IsOpening left_old left opening options
    × ((known : Option WorkspaceRow) × (shown : Bytes) × (taken : Option Bytes) × Greets content fails (paths_of options) known shown
    × Appends taken_old taken shown × ServesIn known left_old left_new taken taken_new ending)
Serves content fails (Some paths) left_old left_new taken_old taken_new ending =
    (known : Option WorkspaceRow) × IsKnownIn content (Some paths) known
    × ServesIn known left_old left_new taken_old taken_new ending

-- a read or a write of the session failed, which its reader or its writer knows
abbrev pub IsStreamFault : Bool → Bool → CommandFault → Type 0
IsStreamFault unread unwritten (Run Read) = IsTrue unread
IsStreamFault unread unwritten (Run Write) = IsTrue unwritten
IsStreamFault unread unwritten _ = ⊥

-- a read or a write of the session failed, or a file of the workspace is not used
abbrev pub IsServiceFault : (Text → Option Text) → (Text → Error → Type 0) → Option WorkspacePaths → Bool → Bool → CommandFault
    → Type 0
IsServiceFault content fails paths unread unwritten fault = IsStreamFault unread unwritten fault
    ⊎ ((given : WorkspacePaths) × (paths ≡ Some given) × IsWorkspaceFault content fails given fault)

-- ---- what only contracts of private functions cite

-- a fault of a stream, or out of memory
abbrev pub IsRunFault : CommandFault → Type 0
IsRunFault (Run fault) = Unit {0}
IsRunFault _ = ⊥

abbrev pub named_row : Named → NamedPaths
named_row named.Nothing = no_paths
named_row named.Wrong = wrong_paths
named_row (named.Paths metadata list) = both_paths metadata.now list.now
