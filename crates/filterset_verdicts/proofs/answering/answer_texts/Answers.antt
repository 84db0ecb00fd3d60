use Rattle.std.proofs.Common.{◌<◌, [], filter, inl, length, map, subst, sym}
use Rattle.std.proofs.lemmas.{List.length-map, Result.IfOk-weaker}
use Rattle.std.specs.List.{AllZip}
use Rattle.filterset_entries.specs.Checked.{text_row}
use Rattle.filterset_answers.specs.Compiled.{AreFiltersets, IsOverrideFor, sets_group}
use Rattle.filterset_answers.specs.Picking.{parsed_of}
use Rattle.filterset_answers.proofs.PickingLemmas.{basis_of, compiled_trees, trees_of}
use Rattle.filterset_verdicts.specs.Verdicts.{question_rows}
use Rattle.filterset_verdicts.proofs.TreeLemmas.{some_filterset}
use Rattle.filterset_verdicts.proofs.answering.answer_texts.Goals as goal

pub decide_filtersets-requires : goal.decide_filtersets-requires
decide_filtersets-requires c =
    let setting = c.args.setting.now in
    let rows = question_rows c.args.asked.now in
    let are = rw c.in-Filtersets.is at c.in_ok-compiled.ensures in
    let some : 0 < length rows = subst (λ n. 0 < n) (sym (length-map c.args.asked.now.entries.now text_row)) c.requires.some in
    rw c.as_slice-filters.ensures.value (some_filterset setting.graph.now setting.groups.now rows c.in-Filtersets.compiled.filters.items are.filters some)

pub returns-in-Filtersets : goal.returns-in-Filtersets
returns-in-Filtersets c =
    let setting = c.args.setting.now in
    let made = c.in-Filtersets.compiled in
    let rows = question_rows c.args.asked.now in
    let are = rw c.in-Filtersets.is at c.in_ok-compiled.ensures in
    let grouped : AllZip (IsOverrideFor setting) (filter sets_group setting.overrides.now) [] =
    subst (λ os. AllZip (IsOverrideFor setting) (filter sets_group os) []) (sym c.requires.plain) tt in
    let basis = basis_of setting rows made [] are grouped in
    IfOk-weaker c.decide_filtersets.result _ _ (λ answer decides. inl (
      basis,
      map parsed_of made.filters.items,
      trees_of setting rows made.filters.items are.filters,
      (rw c.as_slice-filters.ensures.value at decides) basis (sym c.new-context.ensures) (compiled_trees setting.graph.now setting.groups.now rows made.filters.items are.filters),
    ))
    c.decide_filtersets.ensures
