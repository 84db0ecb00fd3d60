use Rattle.std.proofs.Common.{◌∙◌, ap, map, subst, sym}
use Rattle.std.specs.List.{AllZip}
use Rattle.filterset_expression.specs.Meaning.{IsCompiled}
use Rattle.filterset_entries.specs.Endings.{unknown_ending}
use Rattle.filterset_answers.specs.Picking.{compiled_of}
use Rattle.filterset_answers.proofs.PickingLemmas.{compiled_alike}
use Rattle.filterset_answers.proofs.picking.answer_list.Goals as goal

pub returns : goal.returns
returns c setting basis trees is of_overrides none of_trees =
    let graph = setting.graph.now in
    let copied = rw c.as_slice.ensures.value at c.in_ok-copies.ensures in
    let of_copies = compiled_alike graph trees (map compiled_of c.args.filters.items) c.in_ok-copies.copies.items copied of_trees in
    let beyond = c.in_ok-beyond.ensures setting basis trees is of_overrides none of_copies in
    let of_exprs = subst (AllZip (IsCompiled graph) trees) (sym c.in_ok-exprs-2.ensures) of_trees in
    let all = c.in_ok-all-2.ensures setting basis trees is of_overrides none of_exprs in
    let text = rw (c.as_slice-all-2.ensures.value, c.as_slice-2.ensures.value) at c.in_ok-list_json.ensures in
    let unknown = rw c.as_slice-all-2.ensures.value at c.lists_unknown-2.ensures in
    rw c.in-Some.is (c.in_ok-all-2.all.items, all, (c.in_ok-beyond.beyond.items, beyond, text), c.unknown_ending-2.ensures ∙ ap unknown_ending unknown)
