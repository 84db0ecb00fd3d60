-- Workspaces.
use Rattle.std.specs.Prelude.{List, Option, option_map}
use Rattle.filterset_graph.specs.declared.package.PackageMetadata.{PackageMetadata}
use Rattle.filterset_sources.specs.declared.list.Suite.{Suite}
use Rattle.filterset_offers.specs.declared.workspace.Workspace.{Workspace}

-- a workspace: its packages, with those that they depend on, and its test binaries
pub record WorkspaceRow : Type 0 where
  pub packages : List PackageMetadata
  pub suites : List Suite

abbrev pub workspace_row : Workspace → WorkspaceRow
workspace_row w = record { packages = w.graph.now; suites = w.suites.now }

-- the workspace, if there is one
abbrev pub known_of : Option Workspace → Option WorkspaceRow
known_of workspace = option_map workspace_row workspace
