-- Names and ids of test binaries.
use Rattle.std.specs.Prelude.{◌≡◌, ◌≢◌, ◌++◌, ◌||◌, List, Option, Some, None, IsTrue, Contains, codes, if◌then◌else◌, string_bytes}
use Rattle.std.specs.Str.{bytes_eq}
use Rattle.filterset_graph.specs.declared.package.BuildTargetId.{BuildTargetId}
use Rattle.filterset_graph.specs.declared.package.BuildTargetId.TheVariants.{Library, Binary, Example, Test, Benchmark, BuildScript}
use Rattle.filterset_graph.specs.declared.package.{BuildTarget.BuildTarget, PackageMetadata.PackageMetadata}
use Rattle.filterset_graph.specs.Packages.{Text}

-- the id of the test binary of this kind that is made of a target of a package: for the tests of a library the
-- package's name, for an integration test the target's name after it, for any other kind the kind between them
abbrev pub written_id : Text → Text → Text → Text
written_id package_name kind target_name =
    if bytes_eq kind (codes "lib") || bytes_eq kind (codes "proc-macro") then package_name
    else (if bytes_eq kind (codes "test") then package_name ++ codes "::" ++ target_name
    else package_name ++ codes "::" ++ kind ++ codes "/" ++ target_name)

-- the kind of the test binary that is made of a target; a build script has none
abbrev pub kind_of : BuildTargetId → Option Text
kind_of Library = Some (codes "lib")
kind_of Binary = Some (codes "bin")
kind_of Example = Some (codes "example")
kind_of Test = Some (codes "test")
kind_of Benchmark = Some (codes "bench")
kind_of BuildScript = None

-- the target is one of this package, which belongs to the workspace
abbrev pub IsWorkspaceTarget : List PackageMetadata → PackageMetadata → BuildTarget → Type 0
IsWorkspaceTarget packages p target =
    Contains packages p × IsTrue p.in_workspace × Contains p.build_targets.items target

-- a target of a workspace package, and no build script, has this name
abbrev pub IsBinaryName : List PackageMetadata → Text → Type 0
IsBinaryName packages name =
    (p : PackageMetadata) × (target : BuildTarget) × IsWorkspaceTarget packages p target
    × (target.id ≢ BuildScript) × (string_bytes target.name ≡ name)

-- a target of a workspace package, and no build script, makes a binary with this id
abbrev pub IsBinaryId : List PackageMetadata → Text → Type 0
IsBinaryId packages id =
    (p : PackageMetadata) × (target : BuildTarget) × (kind : Text) × IsWorkspaceTarget packages p target
    × (kind_of target.id ≡ Some kind) × (id ≡ written_id (string_bytes p.name) kind (string_bytes target.name))
