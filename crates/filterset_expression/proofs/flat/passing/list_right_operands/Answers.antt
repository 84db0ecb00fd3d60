use Rattle.std.proofs.Common.{◌≡◌, ap, subst, sym, ◌∙◌, [], length, reverse, refl, arith}
use Rattle.std.proofs.lemmas.List.{append-nil}
use Rattle.filterset_expression.specs.Expression.{formula, with_default}
use Rattle.filterset_expression.specs.{FlatSteps.postfix, Passing.ArePassedOver}
use Rattle.filterset_expression.proofs.Passing.{own_default}
use Rattle.filterset_expression.specs.declared.expression.CompiledExpr.TheBlock as variant
use Rattle.filterset_expression.specs.declared.leaves.FiltersetLeaf.TheVariants as leaf
use Rattle.filterset_expression.proofs.flat.passing.list_right_operands.Goals as goal

pub returns : goal.returns
returns c =
    let default = c.args.default.now in
    let own = variant.Set leaf.Default in
    let itself : with_default own default ≡ formula default = own_default (formula default) in
    let none = rw c.new-of_default.ensures.items at c.in_ok-cost.ensures.passed own [] refl (tt, tt) tt tt in
    let own_count : length c.push_operands.new.operands.items ≡ length (postfix (with_default own default)) = omega (arith, rw c.new-of_default.ensures.items at c.in_ok-cost.ensures.length own refl) in
    let counted : length (postfix (formula default)) ≡ length c.deref.result.now = rw c.deref.ensures.value (ap (λ f. length (postfix f)) (sym itself) ∙ sym own_count) in
    let inner : ArePassedOver (postfix (formula default)) (reverse c.deref.result.now) = rw (c.deref.ensures.value, ← itself) (subst (λ s. ArePassedOver s (reverse c.push_operands.new.operands.items)) (append-nil (postfix (with_default own default))) none) in
    let outer = rw c.new-operands.ensures.items at c.in_ok-push_operands.ensures.passed default [] counted inner tt tt in
    rw c.reverse.ensures.items (subst (λ s. ArePassedOver s (reverse c.push_operands-2.new.operands.items)) (append-nil (postfix (with_default default c.args.expr.now))) outer)
