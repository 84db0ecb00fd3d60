use Rattle.std.proofs.Common.{◌∙◌, ◌+◌, List, [], ◌++◌, ap, inl, map, subst}
use Rattle.filterset_entries.specs.Checked.{text_row}
use Rattle.filterset_answers.proofs.PickingLemmas.{basis_of}
use Rattle.filterset_display.specs.Columns.{Text}
use Rattle.filterset_expression.specs.{Contexts.default_of, declared.expression.CompiledExpr.CompiledExpr}
use Rattle.filterset_graph.specs.declared.package.PackageMetadata.{PackageMetadata}
use Rattle.filterset_listing.specs.{Subjects.AreSubjects, declared.groups.GroupOverride.GroupOverride}
use Rattle.filterset_asking.specs.Warnings.{WarningsOf, summary}
use Rattle.filterset_asking.proofs.setting.warn_by.Goals as goal

pub returns : goal.returns
returns c =
    let setting = c.args.setting.now in
    let made = c.args.filtersets.now in
    let binaries = c.args.binaries.now in
    let are = c.requires in
    let overrides = c.in_ok-overrides.overrides.items in
    let subjects = c.in_ok-subjects.subjects.items in
    let count = c.in_ok-count.count in
    let grouped = rw c.as_slice.ensures.value at c.in_ok-overrides.ensures in
    let basis = basis_of setting [] made overrides are (grouped setting are.overrides) in
    let Listed : CompiledExpr → List GroupOverride → Type 0 = λ default given. AreSubjects default given binaries subjects in
    let listed = subst (λ given. Listed basis.default given) c.as_slice-2.ensures.value (subst (λ default. Listed default c.as_slice-2.result.now) c.new-eval_context.ensures c.in_ok-subjects.ensures) in
    let Written : List PackageMetadata → CompiledExpr → Text → Type 0 =
    λ packages default text. WarningsOf c.args.texts.form setting.groups.now (record { packages = packages; default = default }) subjects 1 (map text_row c.args.texts.entries.now) count text in
    let wrote = c.in_ok-count.ensures in
    let packages = c.in_ok-new.ensures in
    let warned = wrote.1 ∙ ap (λ t. t ++ wrote.0) c.new-text.ensures.bytes in
    let all = c.args.texts.end.before + count in
    let ends = rw c.in_ok-total.ensures at c.in_ok-answer.ensures.text in
    let sums = ends ∙ ap (λ t. t ++ summary c.args.texts.form c.count_skipped-skipped.result all) warned ∙ ap (λ k. wrote.0 ++ summary c.args.texts.form k all) c.count_skipped-skipped.ensures in
    let over_packages = subst (λ p. Written p (default_of c.new-eval_context.result) wrote.0) packages wrote.2 in
    let written = subst (λ d. Written setting.graph.now d wrote.0) c.new-eval_context.ensures over_packages in
    inl (basis, subjects, count, wrote.0, listed, written, sums, rw c.in_ok-total.ensures at c.in_ok-answer.ensures.ending)
