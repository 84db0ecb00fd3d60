use Rattle.std.proofs.Common.{◌≡◌, ◌+◌, suc, inr, refl, arith, drop, subst}
use Rattle.std.proofs.lemmas.List.{length-map}
use Rattle.filterset_expression.specs.{FlatExpressions.flat_steps, FlatSteps.step_of}
use Rattle.filterset_expression.specs.Passing.{IsRightOperand, IsPassedOver}
use Rattle.filterset_expression.proofs.Passing.{passed_at, right_within}
use Rattle.filterset_expression.proofs.flat.FlatExpr.steps_after.Goals as goal

pub overflow_add-result : goal.overflow_add-result
overflow_add-result g c =
    let steps = flat_steps c.args.self.now in
    let operand = c.in-Some-Some.operand in
    let found = rw c.deref.ensures.value at c.in-Some-Some.ensures.lookup in
    let passed : IsPassedOver c.in-Some-Some.field-0.now (drop (suc c.args.at) steps) = passed_at steps c.args.self.now.right_operands.items c.args.at c.in-Some-Some.field-0.now _ c.args.self.now.passed_over (omega arith) found.1 in
    let right : IsRightOperand operand.connective operand.steps (drop (suc c.args.at) steps) = rw c.in-Some-Some.field-0-is at passed in
    omega (arith, right_within operand.connective operand.steps c.args.at steps right, length-map c.args.self.now.steps.items step_of, c.args.self.now.steps.small)

pub returns-in-Some-Some : goal.returns-in-Some-Some
returns-in-Some-Some g c =
    let steps = flat_steps c.args.self.now in
    let operand = c.in-Some-Some.operand in
    let found = rw c.deref.ensures.value at c.in-Some-Some.ensures.lookup in
    let passed : IsPassedOver c.in-Some-Some.field-0.now (drop (suc c.args.at) steps) = passed_at steps c.args.self.now.right_operands.items c.args.at c.in-Some-Some.field-0.now _ c.args.self.now.passed_over (omega arith) found.1 in
    let right : IsRightOperand operand.connective operand.steps (drop (suc c.args.at) steps) = rw c.in-Some-Some.field-0-is at passed in
    let next : suc c.args.at ≡ c.args.at + 1 = omega arith in
    inr (operand.connective, operand.steps, c.if-decides.ensures refl, subst (λ n. IsRightOperand operand.connective operand.steps (drop n steps)) next right, refl)
