use Rattle.std.proofs.Common.{◌∙◌, [], ap, map, string_bytes}
use Rattle.filterset_entries.specs.Endings.{unknown_ending}
use Rattle.filterset_answers.proofs.OverridingLemmas.{asked_compiled, groups_of, reasons_for}
use Rattle.filterset_answers.proofs.PickingLemmas.{basis_of}
use Rattle.filterset_answers.proofs.overriding.explain_compiled.Goals as goal

pub returns : goal.returns
returns c =
    let setting = c.args.setting.now in
    let entries = setting.overrides.now in
    let made = c.args.filtersets.now in
    let are = c.requires in
    let asked = c.in_ok-asked.asked.items in
    let found = rw c.as_slice-filters.ensures.value at c.in_ok-asked.ensures in
    let of_asked = found setting are.overrides in
    let groups = groups_of setting entries asked of_asked in
    let basis = basis_of setting [] made groups.0 are groups.1 in
    let explains = rw (c.as_slice-asked.ensures.value, c.new-context.ensures) at c.in_ok-explained.ensures in
    let of_filters = rw (c.as_slice-filters.ensures.value, c.new-context.ensures) at c.in_ok-reasons.ensures in
    let reasons = c.in_ok-reasons.reasons.items in
    let text = rw c.as_slice.ensures.value at c.in_ok-test_overrides_text.ensures in (
      basis,
      [],
      tt,
      (
        asked,
        c.in_ok-explained.explained,
        map (λ s. string_bytes s) reasons,
        of_asked,
        explains setting.graph.now (asked_compiled setting entries asked of_asked),
        reasons_for c.args.query.now setting made.setting.default.compiled entries made.setting.overrides.items reasons are.overrides of_filters,
        text,
        c.unknown_ending.ensures ∙ ap unknown_ending c.any_unknown.ensures,
      ),
    )
