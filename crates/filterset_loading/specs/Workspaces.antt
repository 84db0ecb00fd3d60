-- What files say about a workspace.
use Rattle.std.specs.Prelude.{◌≡◌, ◌≢◌, ◌⊎◌, List, All, Option, Some, alloc_error, [], None}
use Rattle.std.specs.{declared.io.Error.Error, Borrow.Bor}
use Rattle.serde_json.specs.{Data.Data, Read.read, View.view}
use Rattle.filterset_display.specs.Columns.{Text}
use Rattle.filterset_graph.specs.{Packages.ids, declared.package.PackageMetadata.PackageMetadata}
use Rattle.filterset_sources.specs.{Metadata.IsMetadata, Metadata.RefusesMetadata, Platforms.WrongPlatforms}
use Rattle.filterset_sources.specs.Refusals.{Refuses, RefusesJson}
use Rattle.filterset_sources.specs.Suites.{IsOfPackage, IsTestList, WrongPackages, WrongTestList}
use Rattle.filterset_sources.specs.declared.list.{RunIgnored.RunIgnored, Suite.Suite, TestList.TestList}
use Rattle.filterset_sources.specs.declared.refusal.SourceRefusal.{SourceRefusal, TheVariants.OutOfMemory}
use Rattle.filterset_loading.specs.Files.{BySource, IsContent, IsFaultAt, IsFileFault}
use Rattle.filterset_loading.specs.declared.fault.CommandFault.{CommandFault}
use Rattle.filterset_loading.specs.declared.fault.FileFault.{FileFault, TheVariants.Refused}
use Rattle.filterset_loading.specs.declared.workspace.{Workspace.Workspace, WorkspacePaths.WorkspacePaths}
use Rattle.filterset_loading.specs.declared.fault.FileRole.TheVariants as roles

-- the bytes of the file are this JSON value
abbrev pub IsJsonOf : Option Text → Data → Type 0
IsJsonOf content d = (bytes : Text) × IsContent content bytes × (read bytes ≡ Some d)

-- the file says that these are the packages
abbrev pub ArePackagesIn : Option Text → List PackageMetadata → Type 0
ArePackagesIn content packages = (d : Data) × IsJsonOf content d × IsMetadata d packages

-- the file is this JSON value, which lists these suites with the tests that count, each of one of the packages
abbrev pub IsListIn : Option Text → List PackageMetadata → RunIgnored → Data → List Suite → Type 0
IsListIn content packages run d suites =
    IsJsonOf content d × IsTestList run d suites × All (IsOfPackage (ids packages)) suites

-- what the files at the paths say of the workspace
abbrev pub IsWorkspaceIn : (Text → Option Text) → WorkspacePaths → Workspace → Type 0
IsWorkspaceIn content paths workspace = ArePackagesIn (content paths.metadata.now) workspace.graph
    × IsListIn (content paths.list.now) workspace.graph paths.run_ignored (view workspace.value) workspace.list.suites.items

-- the text is no JSON, or its value is refused
abbrev pub RefusesValue : (Data → SourceRefusal → Type 0) → Text → FileFault → Type 0
RefusesValue refuses =
    BySource (λ text refusal. RefusesJson text refusal ⊎ ((d : Data) × (read text ≡ Some d) × refuses d refusal))

-- a value of the list is wrong, the first one; or the package of a test binary, the first one that is none of the packages
abbrev pub RefusesList : List PackageMetadata → Data → SourceRefusal → Type 0
RefusesList packages d refusal = Refuses (WrongTestList d) refusal
    ⊎ ((run : RunIgnored) × (list : TestList) × IsTestList run d list.suites.items × Refuses (WrongPackages (ids packages) list.suites.items) refusal)

-- one of the files at the paths is not used: the one of the packages, or the list of their tests
abbrev pub IsWorkspaceFault : (Text → Option Text) → (Text → Error → Type 0) → WorkspacePaths → CommandFault → Type 0
IsWorkspaceFault content fails paths fault =
    IsFileFault content fails roles.Metadata (RefusesValue RefusesMetadata) paths.metadata.now fault
    ⊎ ((packages : List PackageMetadata) × ArePackagesIn (content paths.metadata.now) packages
    × IsFileFault content fails roles.List (RefusesValue (RefusesList packages)) paths.list.now fault)

-- the fault names the list at this path, and what is wrong among the platforms of its JSON value
abbrev pub IsPlatformsFault : Text → Data → CommandFault → Type 0
IsPlatformsFault path d fault = (refusal : SourceRefusal) × IsFaultAt roles.List path (Refused refusal) fault
    × Refuses (WrongPlatforms d) refusal × (refusal ≢ OutOfMemory alloc_error)

-- the packages are those of the file, and none where there is no file
abbrev pub KnownPackages : (Text → Option Text) → Option (Bor Text) → List PackageMetadata → Type 0
KnownPackages content None packages = packages ≡ []
KnownPackages content (Some path) packages = ArePackagesIn (content path.now) packages
