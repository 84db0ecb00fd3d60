-- What the trees of filtersets print.
use Rattle.std.specs.Prelude.{List}
use Rattle.filterset_faults.specs.declared.{kind.FiltersetKind.FiltersetKind, span.SourceSpan.SourceSpan}
use Rattle.filterset_graph.specs.declared.package.PackageMetadata.{PackageMetadata}
use Rattle.filterset_grammar.specs.{Printing.printed, Tree.SameTree, Tree.Tree}
use Rattle.nextest_filtering.specs.{Compiling.IsFiltersetOf, declared.compile.context.KnownGroups.KnownGroups}

-- what the tree prints is a filterset of this kind, by the same tree, spans aside
abbrev pub PrintsFilterset : FiltersetKind → List PackageMetadata → KnownGroups → Tree SourceSpan → Type 0
PrintsFilterset kind packages groups e =
    (d : Tree SourceSpan) × IsFiltersetOf (printed e) kind packages groups d × SameTree d e
