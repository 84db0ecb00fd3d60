-- What the library says of the program's filtersets, binaries and tests.
use Rattle.std.specs.Prelude.{◌≡◌, List, map}
use Rattle.nextest_filtering.specs.{Compiling.packages_of, declared.compile.context.KnownGroups.KnownGroups}
use Rattle.filterset_expression.specs.Contexts.{default_of}
use Rattle.filterset_expression.specs.declared.{expression.CompiledExpr.CompiledExpr, query.BinaryQuery.BinaryQuery}
use Rattle.filterset_graph.specs.declared.package.PackageMetadata.{PackageMetadata}
use Rattle.filterset_cli.specs.declared.report.setting.Setting.{Setting}
use Rattle.filterset_record.specs.{Rows.binary_row, Record.BinaryRow}

-- ---- what filtersets are read against and asked with

-- the packages, the groups that are known, the default filter, and the binaries that are asked about
pub record Background : Type 0 where
  pub packages : List PackageMetadata
  pub groups : KnownGroups
  pub default : CompiledExpr
  pub binaries : List BinaryRow

abbrev pub background_of : Setting → Background
background_of setting = record {
  packages = packages_of setting.parse_context;
  groups = setting.known_groups;
  default = default_of setting.eval_context;
  binaries = map binary_row setting.lookup.binaries.now;
}

-- ---- questions and answers

-- the query is about the binary
pub record IsAboutBinary (query : BinaryQuery) (binary : BinaryRow) : Type 0 where
  pub package_id : query.package_id.now ≡ binary.package_id
  pub binary_id : query.binary_id.now ≡ binary.id
  pub binary_name : query.binary_name.now ≡ binary.name
  pub kind : query.kind.now ≡ binary.kind
  pub platform : query.platform ≡ binary.platform
