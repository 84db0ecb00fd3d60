-- What makes a workspace, and what changes one.
use Rattle.std.specs.Prelude.{◌≡◌, ◌⊎◌, ℕ, List, Option, None, Some, option_map, string_bytes}
use Rattle.serde_json.specs.{Data.Data, Read.read}
use Rattle.filterset_faults.specs.declared.kind.FiltersetKind.TheVariants.{DefaultFilter}
use Rattle.filterset_graph.specs.{Refusals.IsRefusalOf, declared.refusal.GraphRefusal.GraphRefusal}
use Rattle.filterset_graph.specs.declared.package.PackageMetadata.{PackageMetadata}
use Rattle.filterset_graph.specs.declared.refusal.GraphRefusal.TheVariants as graph
use Rattle.filterset_record.specs.Record.{RecordRow, IsRecord}
use Rattle.filterset_sources.specs.Metadata.{IsMetadata, RefusesMetadata}
use Rattle.filterset_sources.specs.declared.refusal.SourceRefusal.{SourceRefusal, TheVariants.OutOfMemory}
use Rattle.nextest_filtering.specs.{Groups.AreGroups, Groups.IsGlobalOnly, declared.filterset.Filterset.Filterset}
use Rattle.filterset_c.specs.Parsing.{IsFiltersetWithin}
use Rattle.filterset_c.specs.declared.object.{Object.Object, Workspace.Workspace}
use Rattle.filterset_c.specs.declared.object.Object.TheVariants as held

-- the limit of levels of a workspace that is not told otherwise
abbrev pub usual_depth : ℕ
usual_depth = 256

-- the workspace has the packages of what `cargo metadata` writes, no custom groups, and the default filter all()
pub record IsOfMetadata (text : List ℕ) (workspace : Workspace) : Type 0 where
  pub value : Data
  pub is_json : read text ≡ Some value
  pub packages : IsMetadata value workspace.graph
  pub groups : IsGlobalOnly workspace.known_groups
  pub default : workspace.default_filter ≡ None
  pub depth : workspace.depth ≡ usual_depth

-- the refusal is about the file, and not about memory
abbrev pub IsFault : SourceRefusal → Type 0
IsFault (OutOfMemory error) = ⊥
IsFault _ = Unit {0}

abbrev pub IsGraphFault : GraphRefusal → Type 0
IsGraphFault (graph.OutOfMemory error) = ⊥
IsGraphFault _ = Unit {0}

-- a value of what `cargo metadata` writes is wrong, or an id names no package
abbrev pub IsNoGraph : Data → Type 0
IsNoGraph value = (refusal : SourceRefusal) × IsFault refusal × RefusesMetadata value refusal

-- the text is no JSON, or its value is not what `cargo metadata` writes
abbrev pub IsNoMetadata : List ℕ → Type 0
IsNoMetadata text = (read text ≡ None) ⊎ ((value : Data) × (read text ≡ Some value) × IsNoGraph value)

-- the workspace has the packages and the groups of a record, and the default filter all()
pub record IsOfRecord (text : List ℕ) (workspace : Workspace) : Type 0 where
  pub value : Data
  pub is_json : read text ≡ Some value
  pub row : RecordRow
  pub is_record : IsRecord value row
  pub packages : workspace.graph ≡ row.packages
  pub groups : AreGroups row.groups workspace.known_groups
  pub default : workspace.default_filter ≡ None
  pub depth : workspace.depth ≡ usual_depth

-- an id of the packages is repeated, or a link names none of them
abbrev pub IsNoGraphOf : List PackageMetadata → Type 0
IsNoGraphOf packages = (refusal : GraphRefusal) × IsGraphFault refusal × IsRefusalOf packages refusal

-- the text is no JSON, or its value is no record, or its packages make no graph
abbrev pub IsNoRecord : List ℕ → Type 0
IsNoRecord text = (read text ≡ None) ⊎ ((value : Data) × (read text ≡ Some value)
    × ((¬ ((row : RecordRow) × IsRecord value row))
    ⊎ ((row : RecordRow) × IsRecord value row × IsNoGraphOf row.packages)))

-- the handle holds a workspace, of which P holds
abbrev pub HoldsWorkspace : (Workspace → Type 0) → Option Object → Type 0
HoldsWorkspace P (Some (held.Workspace workspace)) = P workspace
HoldsWorkspace P _ = ⊥

-- the handle is empty, or holds something else
abbrev pub IsNoWorkspace : Option Object → Type 0
IsNoWorkspace (Some (held.Workspace workspace)) = ⊥
IsNoWorkspace _ = Unit {0}

abbrev pub IsWorkspace : Option Object → Type 0
IsWorkspace held = HoldsWorkspace (λ _. Unit {0}) held

-- R holds of the workspaces that two handles hold
abbrev pub Changes : (Workspace → Workspace → Type 0) → Option Object → Option Object → Type 0
Changes R old new = HoldsWorkspace (λ before. HoldsWorkspace (R before) new) old

-- only the groups change, to those that have these names
pub record HasGroups (names : List (List ℕ)) (before after : Workspace) : Type 0 where
  pub groups : AreGroups names after.known_groups
  pub packages : after.graph ≡ before.graph
  pub default : after.default_filter ≡ before.default_filter
  pub depth : after.depth ≡ before.depth

-- only the limit of levels changes
pub record HasDepth (levels : ℕ) (before after : Workspace) : Type 0 where
  pub depth : after.depth ≡ levels
  pub packages : after.graph ≡ before.graph
  pub groups : after.known_groups ≡ before.known_groups
  pub default : after.default_filter ≡ before.default_filter

-- only the default filter changes, to this text, which is one within the limit
pub record HasFilter (text : List ℕ) (before after : Workspace) : Type 0 where
  pub filter : (filterset : Filterset) × IsFiltersetWithin before text DefaultFilter filterset
  pub kept : option_map (λ s. string_bytes s) after.default_filter ≡ Some text
  pub packages : after.graph ≡ before.graph
  pub groups : after.known_groups ≡ before.known_groups
  pub depth : after.depth ≡ before.depth
