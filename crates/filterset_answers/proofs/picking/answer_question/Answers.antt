use Rattle.std.proofs.{Common.map, Common.string_bytes, Common.subst, Common.sym, lemmas.Result.IfOk-weaker}
use Rattle.std.specs.{List.AllZip, Prelude.option_map}
use Rattle.serde_json.specs.View.{view}
use Rattle.filterset_answers.specs.{Compiled.IsAskedFor, Picking.Tells, Picking.parsed_of}
use Rattle.filterset_answers.proofs.PickingLemmas.{basis_of, compiled_trees, trees_of}
use Rattle.filterset_entries.specs.Entries.{question_rows}
use Rattle.filterset_answers.proofs.picking.answer_question.Goals as goal

pub returns-in-List : goal.returns-in-List
returns-in-List c =
    let setting = c.args.setting.now in
    let made = c.args.filtersets in
    let are = c.requires in
    let rows = question_rows c.args.question.now in
    let grouped = rw c.as_slice.ensures.value at c.in_ok-made.ensures in
    let basis = basis_of setting rows made c.in_ok-made.made.items are (grouped setting are.overrides) in
    let trees = map parsed_of made.filters.items in
    IfOk-weaker c.answer_list.result _ _ (λ answer lists. (
      basis,
      trees,
      trees_of setting rows made.filters.items are.filters,
      subst (λ question. Tells setting question (option_map view c.args.kept) c.args.binaries.now basis trees answer.ending (string_bytes answer.text)) (sym c.in-List.is)
          (lists setting basis trees (sym c.new-context.ensures) (sym c.as_slice-2.ensures.value) (are.default.no_default setting.default_kind) (compiled_trees setting.graph.now setting.groups.now rows made.filters.items are.filters)),
    ))
    c.answer_list.ensures

pub returns-in-Compare : goal.returns-in-Compare
returns-in-Compare c =
    let setting = c.args.setting.now in
    let made = c.args.filtersets in
    let are = c.requires in
    let rows = question_rows c.args.question.now in
    let grouped = rw c.as_slice.ensures.value at c.in_ok-made.ensures in
    let basis = basis_of setting rows made c.in_ok-made.made.items are (grouped setting are.overrides) in
    let trees = map parsed_of made.filters.items in
    IfOk-weaker c.answer_compare.result _ _ (λ answer compares. (
      basis,
      trees,
      trees_of setting rows made.filters.items are.filters,
      subst (λ question. Tells setting question (option_map view c.args.kept) c.args.binaries.now basis trees answer.ending (string_bytes answer.text)) (sym c.in-Compare.is)
          (let own = rw c.as_slice-in-Compare.ensures.value at compares in own setting basis (sym c.new-context.ensures) (sym c.as_slice-2.ensures.value) (compiled_trees setting.graph.now setting.groups.now rows made.filters.items are.filters)),
    ))
    c.answer_compare.ensures

pub returns-in_ok-asked-in-Overrides : goal.returns-in_ok-asked-in-Overrides
returns-in_ok-asked-in-Overrides c =
    let setting = c.args.setting.now in
    let made = c.args.filtersets in
    let are = c.requires in
    let rows = question_rows c.args.question.now in
    let grouped = rw c.as_slice.ensures.value at c.in_ok-made.ensures in
    let basis = basis_of setting rows made c.in_ok-made.made.items are (grouped setting are.overrides) in
    let trees = map parsed_of made.filters.items in
    let asked = rw c.as_slice-in-Overrides.ensures.value at c.in_ok-asked-in-Overrides.ensures in
    IfOk-weaker c.answer_overrides.result _ _ (λ answer counts. (
      basis,
      trees,
      trees_of setting rows made.filters.items are.filters,
      subst (λ question. Tells setting question (option_map view c.args.kept) c.args.binaries.now basis trees answer.ending (string_bytes answer.text)) (sym c.in-Overrides.is)
          (counts setting basis trees (sym c.new-context.ensures) (sym c.as_slice-2.ensures.value) (are.default.no_default setting.default_kind) (compiled_trees setting.graph.now setting.groups.now rows made.filters.items are.filters)
          (subst (AllZip (IsAskedFor setting) setting.overrides.now) (sym c.as_slice-in-Overrides-2.ensures.value) (asked setting are.overrides))),
    ))
    c.answer_overrides.ensures
