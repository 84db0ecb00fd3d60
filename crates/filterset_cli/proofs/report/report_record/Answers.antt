use Rattle.std.proofs.Common.{List, inl, map, string_bytes, subst, sym}
use Rattle.std.proofs.lemmas.Result.{IfOk-weaker}
use Rattle.filterset_graph.specs.Packages.{AllDiffer, LinksKnown, ids}
use Rattle.filterset_graph.specs.declared.package.PackageMetadata.{PackageMetadata}
use Rattle.filterset_record.specs.{Record.RecordRow, Rows.binary_row, Rows.filterset_row}
use Rattle.filterset_cli.specs.Report.{RecordReport}
use Rattle.filterset_record.specs.declared.record.binaries.BinaryEntry.{BinaryEntry}
use Rattle.filterset_cli.proofs.report.report_record.Goals as goal

pub returns-in-Err : goal.returns-in-Err
returns-in-Err c = inl (c.in_ok-packages_line-in-Err.ensures c.args.entries.packages.items c.in-Err.ensures.refused)

pub report_filtersets-requires-clause-graph : goal.report_filtersets-requires-clause-graph
report_filtersets-requires-clause-graph c = subst (λ (packages : List PackageMetadata). AllDiffer (ids packages) × LinksKnown packages) (sym c.in-Ok.ensures.ok) c.in-Ok.ensures.sound

pub returns : goal.returns
returns c =
    let row : List PackageMetadata → List BinaryEntry → RecordRow = λ packages binaries. record {
      filtersets = map filterset_row c.args.entries.filtersets.items;
      packages = packages;
      groups = map (λ s. string_bytes s) c.args.entries.groups.items;
      default_filter = string_bytes c.args.entries.default_filter;
      binaries = map binary_row binaries;
      command = c.args.entries.command;
    } in
    IfOk-weaker c.report_filtersets.result _ _ (λ made report.
    subst (λ (packages : List PackageMetadata). RecordReport (row packages c.args.entries.binaries.items) (string_bytes made.0) made.1) c.in-Ok.ensures.ok
    (subst (λ (binaries : List BinaryEntry). RecordReport (row c.in-Ok.graph binaries) (string_bytes made.0) made.1) c.deref.ensures.value (report _ c.in_ok-known_groups.ensures.groups))) c.report_filtersets.ensures
