-- The record of the program, and which JSON values stand for it.
use Rattle.std.specs.Prelude.{◌≡◌, ◌⊎◌, true, List, [], ◌∷◌, codes, map, string_bytes, unwrap_or}
use Rattle.serde_json.specs.Data.{Data}
use Rattle.filterset_faults.specs.{Texts.kind_text, declared.kind.FiltersetKind.FiltersetKind}
use Rattle.filterset_faults.specs.declared.kind.FiltersetKind.TheVariants as kinds
use Rattle.filterset_graph.specs.Binaries.{kind_of}
use Rattle.filterset_graph.specs.declared.package.{BuildPlatform.BuildPlatform, BuildTarget.BuildTarget}
use Rattle.filterset_graph.specs.declared.package.{BuildTargetId.BuildTargetId, PackageMetadata.PackageMetadata}
use Rattle.filterset_json.specs.Shape.{Text, IsPlatform, IsText, IsBoolean, IsListOf, IsObjectWith, Required, Optional}
use Rattle.filterset_record.specs.declared.record.commands.Command.{Command, TheVariants.Report, TheVariants.Format}

pub record TestRow : Type 0 where
  pub name : Text
  pub group : Text

pub record BinaryRow : Type 0 where
  pub package_id : Text
  pub id : Text
  pub name : Text
  pub kind : Text
  pub platform : BuildPlatform
  pub tests : List TestRow

pub record FiltersetRow : Type 0 where
  pub text : Text
  pub kind : FiltersetKind

pub record RecordRow : Type 0 where
  pub filtersets : List FiltersetRow
  pub packages : List PackageMetadata
  pub groups : List Text
  pub default_filter : Text
  pub binaries : List BinaryRow
  pub command : Command

-- the value is what the kind of build targets is called: as the test binary that is made of one, or `build` for a script
abbrev pub IsTargetKind : Data → BuildTargetId → Type 0
IsTargetKind d id = IsText d (unwrap_or (kind_of id) (codes "build"))

abbrev pub IsTarget : Data → BuildTarget → Type 0
IsTarget d target = IsObjectWith (map codes ("kind" ∷ "name" ∷ [])) d
    × Required (codes "kind") IsTargetKind d target.id
    × Required (codes "name") IsText d (string_bytes target.name)

-- a package, which belongs to the workspace where nothing else is said
abbrev pub IsPackage : Data → PackageMetadata → Type 0
IsPackage d p = IsObjectWith (map codes ("id" ∷ "name" ∷ "workspace" ∷ "targets" ∷ "links" ∷ [])) d
    × Required (codes "id") IsText d p.id
    × Required (codes "name") IsText d (string_bytes p.name)
    × Optional (codes "workspace") IsBoolean true d p.in_workspace
    × Optional (codes "targets") (IsListOf IsTarget) [] d p.build_targets.items
    × Optional (codes "links") (IsListOf IsText) [] d p.links.items

-- a test, which is in the global group where nothing else is said
abbrev pub IsTest : Data → TestRow → Type 0
IsTest d test = IsObjectWith (map codes ("name" ∷ "group" ∷ [])) d
    × Required (codes "name") IsText d test.name
    × Optional (codes "group") IsText (codes "@global") d test.group

abbrev pub IsBinary : Data → BinaryRow → Type 0
IsBinary d binary = IsObjectWith (map codes ("package" ∷ "id" ∷ "name" ∷ "kind" ∷ "platform" ∷ "tests" ∷ [])) d
    × Required (codes "package") IsText d binary.package_id
    × Required (codes "id") IsText d binary.id
    × Required (codes "name") IsText d binary.name
    × Required (codes "kind") IsText d binary.kind
    × Required (codes "platform") IsPlatform d binary.platform
    × Optional (codes "tests") (IsListOf IsTest) [] d binary.tests

-- a filterset: a text alone, of kind test, or an object with a text and a kind
abbrev pub IsFilterset : Data → FiltersetRow → Type 0
IsFilterset d filterset = (IsText d filterset.text × (filterset.kind ≡ kinds.Test))
    ⊎ (IsObjectWith (map codes ("text" ∷ "kind" ∷ [])) d
    × Required (codes "text") IsText d filterset.text
    × Required (codes "kind") IsText d (kind_text filterset.kind))

-- the value is what the command is called
abbrev pub IsCommand : Data → Command → Type 0
IsCommand d Report = IsText d (codes "report")
IsCommand d Format = IsText d (codes "format")

-- a record, whose default filter holds every test, and which asks for a report, where nothing else is said
abbrev pub IsRecord : Data → RecordRow → Type 0
IsRecord d row =
    IsObjectWith (map codes ("filtersets" ∷ "packages" ∷ "groups" ∷ "default" ∷ "binaries" ∷ "command" ∷ [])) d
    × Required (codes "filtersets") (IsListOf IsFilterset) d row.filtersets
    × Optional (codes "packages") (IsListOf IsPackage) [] d row.packages
    × Optional (codes "groups") (IsListOf IsText) [] d row.groups
    × Optional (codes "default") IsText (codes "all()") d row.default_filter
    × Optional (codes "binaries") (IsListOf IsBinary) [] d row.binaries
    × Optional (codes "command") IsCommand Report d row.command

-- ---- read by itself

-- the value is what the kind of filtersets is called
abbrev pub IsFiltersetKind : Data → FiltersetKind → Type 0
IsFiltersetKind d kind = IsText d (kind_text kind)
