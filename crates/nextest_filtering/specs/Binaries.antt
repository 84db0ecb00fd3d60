-- The packages and the test binaries of a workspace that filtersets may name.
use Rattle.std.specs.Prelude.{List, ℕ, Option, option_map, string_bytes}
use Rattle.std.specs.List.{filter, filter_map, flat_map}
use Rattle.filterset_graph.specs.Binaries.{kind_of, written_id}
use Rattle.filterset_graph.specs.declared.package.{BuildTarget.BuildTarget, PackageMetadata.PackageMetadata}
use Rattle.nextest_filtering.specs.declared.compile.context.TestBinary.{TestBinary}

-- the packages of the workspace, in their order
abbrev pub members_of : List PackageMetadata → List PackageMetadata
members_of packages = filter (λ p. p.in_workspace) packages

-- the name and the id of a test binary
pub record NameAndId : Type 0 where
  pub name : List ℕ
  pub id : List ℕ

-- the test binary of this kind that is made of a target of a package
abbrev pub binary_with : PackageMetadata → BuildTarget → List ℕ → NameAndId
binary_with p target kind = record {
  name = string_bytes target.name;
  id = written_id (string_bytes p.name) kind (string_bytes target.name);
}

-- the test binary that is made of a target of a package; of a build script there is none
abbrev pub binary_of : PackageMetadata → BuildTarget → Option NameAndId
binary_of p target = option_map (binary_with p target) (kind_of target.id)

-- the test binaries of a package
abbrev pub binaries_of : PackageMetadata → List NameAndId
binaries_of p = filter_map (binary_of p) p.build_targets.items

-- the test binaries of the packages of the workspace, in their order
abbrev pub test_binaries : List PackageMetadata → List NameAndId
test_binaries packages = flat_map binaries_of (members_of packages)

-- the name and the id of a kept test binary
abbrev pub name_and_id : TestBinary → NameAndId
name_and_id binary = record { name = binary.name.now; id = binary.id }
