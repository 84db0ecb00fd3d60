use Rattle.std.proofs.Common.{List, ap, map, string_bytes, subst, sym}
use Rattle.std.proofs.lemmas.Result.{IfOk-weaker}
use Rattle.filterset_language.specs.Views.{tree_of}
use Rattle.filterset_faults.specs.declared.kind.FiltersetKind.TheVariants as kinds
use Rattle.filterset_graph.specs.declared.package.PackageMetadata.{PackageMetadata}
use Rattle.nextest_filtering.specs.Compiling.{IsFiltersetOf, packages_of}
use Rattle.filterset_expression.specs.{Contexts.default_of, Meaning.IsCompiled}
use Rattle.filterset_expression.specs.declared.expression.CompiledExpr.{CompiledExpr}
use Rattle.filterset_record.specs.{Record.RecordRow, Rows.binary_row, Rows.filterset_row}
use Rattle.filterset_cli.proofs.ReportLemmas.{reported}
use Rattle.filterset_cli.proofs.report.report_filtersets.Goals as goal

pub returns-in_ok-lookup-in-Ok : goal.returns-in_ok-lookup-in-Ok
returns-in_ok-lookup-in-Ok c =
    let packages = packages_of c.in_ok-parse_context.parse_context in
    let tree = tree_of c.in-Ok.default_filter.parsed in
    let default = default_of c.new-in-Ok-2.result in
    let compiled = subst (λ (default : CompiledExpr). IsCompiled packages tree default) (sym c.new-in-Ok-2.ensures) c.in-Ok.ensures.compiled in
    let over_graph : IsFiltersetOf (string_bytes c.args.asked.default_filter) kinds.DefaultFilter c.args.graph.now c.args.known_groups tree × IsCompiled c.args.graph.now tree default =
    subst (λ (ps : List PackageMetadata). IsFiltersetOf (string_bytes c.args.asked.default_filter) kinds.DefaultFilter ps c.args.known_groups tree × IsCompiled ps tree default)
    c.in_ok-parse_context.ensures (c.in-Ok.ensures.accepted, compiled) in
    IfOk-weaker c.report_sections.result _ _ (λ made (all, sections, says) names are.
    let row : RecordRow = record {
      filtersets = map filterset_row c.args.asked.filtersets.items;
      packages = c.args.graph.now;
      groups = names;
      default_filter = string_bytes c.args.asked.default_filter;
      binaries = map binary_row c.args.binaries.now;
      command = c.args.asked.command;
    } in
    reported row packages c.args.known_groups default (map binary_row c.in_ok-lookup-in-Ok.lookup.binaries.now) (string_bytes made.0) made.1 all
    c.in_ok-parse_context.ensures (ap (map binary_row) c.in_ok-lookup-in-Ok.ensures)
    (λ output all over. (c.args.known_groups, tree, default, c.requires.graph.0, c.requires.graph.1, are, over_graph.0, over_graph.1, over))
    sections says) c.report_sections.ensures
