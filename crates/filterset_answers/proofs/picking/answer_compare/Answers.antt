use Rattle.std.proofs.Common.{List, map, string_bytes, subst, sym}
use Rattle.std.specs.List.{AllZip}
use Rattle.filterset_expression.specs.{Meaning.IsCompiled, declared.expression.CompiledExpr.CompiledExpr}
use Rattle.filterset_listing.specs.{Comparing.IsBinaryDifference, Pickers.tree_picker}
use Rattle.filterset_listing.specs.declared.groups.GroupOverride.{GroupOverride}
use Rattle.filterset_answers.specs.Picking.{Compares, compiled_of, parsed_of}
use Rattle.filterset_answers.proofs.PickingLemmas.{two_of}
use Rattle.filterset_answers.proofs.picking.answer_compare.Goals as goal

pub returns : goal.returns
returns c setting basis is of_overrides of_trees =
    let packages = setting.graph.now in
    let one = c.index-filters-0.result in
    let other = c.index-filters-1.result in
    let first = parsed_of one in
    let second = parsed_of other in
    let binaries = c.args.tests.binaries.now in
    let all = c.in_ok-all.all.items in
    let pair = two_of c.args.filters.now one other c.requires (sym c.index-filters-0.is) (sym c.index-filters-1.is) in
    let trees = subst (λ fs. AllZip (IsCompiled packages) (map parsed_of fs) (map compiled_of fs)) pair of_trees in
    let is_one = subst (λ f. IsCompiled packages first (compiled_of f)) c.index-filters-0.is trees.0 in
    let is_other = subst (λ f. IsCompiled packages second (compiled_of f)) c.index-filters-1.is trees.1.0 in
    let Differ : CompiledExpr → List GroupOverride → Type 0 = λ e os. AllZip (IsBinaryDifference (tree_picker packages e os first) (tree_picker packages e os second)) binaries all in
    let found = c.in_ok-all.ensures.meaning packages first second is_one is_other in
    let own = subst (Differ basis.default) (sym of_overrides) (subst (λ e. Differ e c.args.tests.overrides.now) (sym is) found) in
    let text = rw c.as_slice-all.ensures.value at c.in_ok-comparison_text.ensures in
    let compared = subst (AllZip (IsBinaryDifference (tree_picker packages basis.default basis.overrides first) (tree_picker packages basis.default basis.overrides second)) binaries) (sym c.as_slice-all.ensures.value) own in
    let differ = c.differ.ensures.meaning packages basis.default basis.overrides first second binaries compared in
    let unknown = c.any_unknown.ensures.meaning packages basis.default basis.overrides first second binaries compared in
    subst (λ fs. Compares setting c.args.has_names binaries basis (map parsed_of fs) c.differing_ending.result (string_bytes c.in_ok-comparison_text.field-0)) (sym pair)
    (all, c.differ.result, c.any_unknown.result, own, text, differ, unknown, c.differing_ending.ensures)
