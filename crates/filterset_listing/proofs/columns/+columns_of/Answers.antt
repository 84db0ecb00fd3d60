use Rattle.std.proofs.Common.{rules, ◌≡◌, map, refl, sym, ◌∙◌, ap, subst}
use Rattle.std.proofs.lemmas.Result.{IfOk-weaker}
use Rattle.std.specs.Prelude.{zip}
use Rattle.filterset_expression.specs.Connectives.{kleene, kleene_not}
use Rattle.filterset_expression.specs.{Contexts.default_of, declared.logic.Connective.TheVariants.Conjunction}
use Rattle.filterset_grammar.specs.Tree.{Not, Union, Join}
use Rattle.filterset_grammar.specs.declared.operators.Joiner.TheVariants.{Both, Without, ExactlyOne}
use Rattle.filterset_language.specs.Views.{tree_of}
use Rattle.filterset_listing.specs.Columns.{first_of, second_of, values_of}
use Rattle.filterset_listing.proofs.ColumnLemmas.{FitsCompiled, not_fits, two_fits, without_fits}
use Rattle.filterset_listing.proofs.columns.+columns_of.Goals as goal

pub returns-in_ok-new-in-Not : goal.returns-in_ok-new-in-Not
returns-in_ok-new-in-Not t c =
    let default = default_of c.args.asked.now.context in
    let subjects = c.args.asked.now.subjects.now in
    let columns = c.in_ok-new-in-Not.field-0.value in
    let operand = c.in_ok-operand-in-Not.operand.value in
    let op = c.in-Not.field-0 in
    let a = tree_of c.deref.result.now in
    let of_tree : tree_of c.args.tree.now ≡ Not op a = search rules in
    let values : values_of columns ≡ map kleene_not (values_of operand) = rw c.in_ok-new-in-Not.ensures.ok (c.in_ok-values-in-Not.ensures ∙ ap (map kleene_not) (c.values.ensures ∙ ap values_of c.deref-in-Not.ensures)) in
    let first : first_of columns ≡ operand = rw c.in_ok-new-in-Not.ensures.ok refl in
    subst (λ e. FitsCompiled default subjects e c.args.compiled.now columns) (sym of_tree)
    (not_fits default subjects c.args.compiled.now op a c.negated_by.result.now operand columns c.negated_by.ensures c.in_ok-operand-in-Not.ensures values first)

pub returns-in_ok-right-in-Union : goal.returns-in_ok-right-in-Union
returns-in_ok-right-in-Union t c =
    let default = default_of c.args.asked.now.context in
    let subjects = c.args.asked.now.subjects.now in
    let a = tree_of c.deref-in-Union.result.now in
    let b = tree_of c.deref-in-Union-2.result.now in
    let of_tree : tree_of c.args.tree.now ≡ Union c.in-Union.field-0 a b = search rules in
    IfOk-weaker c.connect.result _ _ (λ columns is. subst (λ e. FitsCompiled default subjects e c.args.compiled.now columns.value) (sym of_tree)
    (two_fits default subjects c.args.compiled.now _ (Union c.in-Union.field-0 a b) a b c.operands_of.result.0.now c.operands_of.result.1.now c.in_ok-left-in-Union.left.value c.in_ok-right-in-Union.right.value columns.value refl (λ basis fits. fits)
    c.operands_of.ensures.left c.operands_of.ensures.right c.in_ok-left-in-Union.ensures c.in_ok-right-in-Union.ensures is)) c.connect.ensures

pub returns-in_ok-right-in-Intersection : goal.returns-in_ok-right-in-Intersection
returns-in_ok-right-in-Intersection t c =
    let default = default_of c.args.asked.now.context in
    let subjects = c.args.asked.now.subjects.now in
    let a = tree_of c.deref-in-Intersection.result.now in
    let b = tree_of c.deref-in-Intersection-2.result.now in
    let of_tree : tree_of c.args.tree.now ≡ Join (Both c.in-Intersection.field-0) a b = search rules in
    IfOk-weaker c.connect-in-Intersection.result _ _ (λ columns is. subst (λ e. FitsCompiled default subjects e c.args.compiled.now columns.value) (sym of_tree)
    (two_fits default subjects c.args.compiled.now _ (Join (Both c.in-Intersection.field-0) a b) a b c.operands_of-in-Intersection.result.0.now c.operands_of-in-Intersection.result.1.now c.in_ok-left-in-Intersection.left.value c.in_ok-right-in-Intersection.right.value columns.value refl (λ basis fits. fits)
    c.operands_of-in-Intersection.ensures.left c.operands_of-in-Intersection.ensures.right c.in_ok-left-in-Intersection.ensures c.in_ok-right-in-Intersection.ensures is)) c.connect-in-Intersection.ensures

pub returns-in_ok-new-in-Difference : goal.returns-in_ok-new-in-Difference
returns-in_ok-new-in-Difference t c =
    let default = default_of c.args.asked.now.context in
    let subjects = c.args.asked.now.subjects.now in
    let columns = c.in_ok-new-in-Difference.field-0.value in
    let left = c.in_ok-left-in-Difference.left.value in
    let right = c.in_ok-right-in-Difference.right.value in
    let op = c.in-Difference.field-0 in
    let a = tree_of c.deref-in-Difference.result.now in
    let b = tree_of c.deref-in-Difference-2.result.now in
    let of_tree : tree_of c.args.tree.now ≡ Join (Without op) a b = search rules in
    let rights : c.values-in-Difference.result.now ≡ values_of right = c.values-in-Difference.ensures ∙ ap values_of c.deref-in-Difference-3.ensures in
    let lefts : c.values-in-Difference-2.result.now ≡ values_of left = c.values-in-Difference-2.ensures ∙ ap values_of c.deref-in-Difference-4.ensures in
    let others = c.deref-in-Difference-5.ensures.value ∙ c.in_ok-others-in-Difference.ensures ∙ ap (map kleene_not) rights in
    let values : values_of columns ≡ map (λ p. kleene Conjunction p.0 p.1) (zip (values_of left) (map kleene_not (values_of right))) =
    rw c.in_ok-new-in-Difference.ensures.ok (c.in_ok-values-in-Difference.ensures ∙ λ i. map (λ p. kleene Conjunction p.0 p.1) (zip (lefts i) (others i))) in
    let first : first_of columns ≡ left = rw c.in_ok-new-in-Difference.ensures.ok refl in
    let second : second_of columns ≡ right = rw c.in_ok-new-in-Difference.ensures.ok refl in
    subst (λ e. FitsCompiled default subjects e c.args.compiled.now columns) (sym of_tree)
    (without_fits default subjects c.args.compiled.now op a b c.operands_of-in-Difference.result.0.now c.operands_of-in-Difference.result.1.now c.negated_by-in-Difference.result.now left right columns c.operands_of-in-Difference.ensures.left c.operands_of-in-Difference.ensures.right c.negated_by-in-Difference.ensures c.in_ok-left-in-Difference.ensures c.in_ok-right-in-Difference.ensures values first second)

pub returns-in_ok-right-in-SymmetricDifference : goal.returns-in_ok-right-in-SymmetricDifference
returns-in_ok-right-in-SymmetricDifference t c =
    let default = default_of c.args.asked.now.context in
    let subjects = c.args.asked.now.subjects.now in
    let a = tree_of c.deref-in-SymmetricDifference.result.now in
    let b = tree_of c.deref-in-SymmetricDifference-2.result.now in
    let of_tree : tree_of c.args.tree.now ≡ Join (ExactlyOne c.in-SymmetricDifference.field-0) a b = search rules in
    IfOk-weaker c.connect-in-SymmetricDifference.result _ _ (λ columns is. subst (λ e. FitsCompiled default subjects e c.args.compiled.now columns.value) (sym of_tree)
    (two_fits default subjects c.args.compiled.now _ (Join (ExactlyOne c.in-SymmetricDifference.field-0) a b) a b c.operands_of-in-SymmetricDifference.result.0.now c.operands_of-in-SymmetricDifference.result.1.now c.in_ok-left-in-SymmetricDifference.left.value c.in_ok-right-in-SymmetricDifference.right.value columns.value refl (λ basis fits. fits)
    c.operands_of-in-SymmetricDifference.ensures.left c.operands_of-in-SymmetricDifference.ensures.right c.in_ok-left-in-SymmetricDifference.ensures c.in_ok-right-in-SymmetricDifference.ensures is)) c.connect-in-SymmetricDifference.ensures
