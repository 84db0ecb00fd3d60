use Rattle.std.proofs.Common.{rules, ◌∷◌, [], refl, string_bytes, sym}
use Rattle.filterset_answers.specs.Picking.{parsed_of}
use Rattle.filterset_answers.proofs.PickingLemmas.{basis_of, one_of}
use Rattle.filterset_answers.proofs.explaining.explain_compiled.Goals as goal

pub returns : goal.returns
returns c =
    let setting = c.args.setting.now in
    let made = c.args.filtersets.now in
    let filter = c.index-filter.result.now in
    λ row are.
    let is = one_of setting.graph.now setting.groups.now row made.filters.items filter are.filters (sym c.index-filter.ensures) in
    let grouped = rw c.as_slice.ensures.value at c.in_ok-overrides.ensures in
    let basis = basis_of setting (row ∷ []) made c.in_ok-overrides.overrides.items are (grouped setting are.overrides) in (
      basis,
      parsed_of filter ∷ [],
      (is.accepted, tt),
      (string_bytes c.in_ok-answer.answer.text, c.in_ok-answer.ensures basis refl (sym c.as_slice-2.ensures.value), search rules),
    )
