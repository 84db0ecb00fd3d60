use Rattle.std.proofs.Common.{◌≡◌}
use Rattle.filterset_expression.specs.{Contexts.default_of, Expression.with_default}
use Rattle.filterset_expression.specs.FlatSteps.{steps_of, postfix}
use Rattle.filterset_expression.proofs.FlatSteps.{made_steps, postfix_runs, no_default_step}
use Rattle.filterset_expression.proofs.Passing.{are_passed}
use Rattle.filterset_expression.proofs.flat.FlatExpr.new.Goals as goal

pub height_of-height-requires : goal.height_of-height-requires
height_of-height-requires c =
    let made : steps_of c.push_steps-2.new.steps.items ≡ postfix (with_default (default_of c.args.cx.now) c.args.expr.now) = rw (← c.default_filter.ensures.same) (made_steps c.default_filter.result.now c.args.expr.now c.push_steps.new.steps.items c.push_steps-2.new.steps.items c.default_filter.ensures.no_default (rw c.new-default_steps.ensures.items at c.in_ok-push_steps.ensures) (rw (c.new-steps.ensures.items, c.deref.ensures.value) at c.in_ok-push_steps-2.ensures)) in
    rw (c.deref-3.ensures.value, made) (postfix_runs (with_default (default_of c.args.cx.now) c.args.expr.now))

pub invariant_of-result : goal.invariant_of-result
invariant_of-result c =
    let made : steps_of c.push_steps-2.new.steps.items ≡ postfix (with_default (default_of c.args.cx.now) c.args.expr.now) = rw (← c.default_filter.ensures.same) (made_steps c.default_filter.result.now c.args.expr.now c.push_steps.new.steps.items c.push_steps-2.new.steps.items c.default_filter.ensures.no_default (rw c.new-default_steps.ensures.items at c.in_ok-push_steps.ensures) (rw (c.new-steps.ensures.items, c.deref.ensures.value) at c.in_ok-push_steps-2.ensures)) in
    record {
      one_value = rw made (postfix_runs (with_default (default_of c.args.cx.now) c.args.expr.now));
      fits = rw (← c.deref-3.ensures.value) c.height_of-height.ensures;
      passed_over = rw made (are_passed _ _ (rw c.default_filter-2.ensures.same at c.in_ok-right_operands.ensures));
    }

pub returns-clause-flat : goal.returns-clause-flat
returns-clause-flat c =
    rw (← c.default_filter.ensures.same) (made_steps c.default_filter.result.now c.args.expr.now c.push_steps.new.steps.items c.push_steps-2.new.steps.items c.default_filter.ensures.no_default (rw c.new-default_steps.ensures.items at c.in_ok-push_steps.ensures) (rw (c.new-steps.ensures.items, c.deref.ensures.value) at c.in_ok-push_steps-2.ensures))

pub returns-clause-no_default : goal.returns-clause-no_default
returns-clause-no_default c =
    let made : steps_of c.push_steps-2.new.steps.items ≡ postfix (with_default (default_of c.args.cx.now) c.args.expr.now) = rw (← c.default_filter.ensures.same) (made_steps c.default_filter.result.now c.args.expr.now c.push_steps.new.steps.items c.push_steps-2.new.steps.items c.default_filter.ensures.no_default (rw c.new-default_steps.ensures.items at c.in_ok-push_steps.ensures) (rw (c.new-steps.ensures.items, c.deref.ensures.value) at c.in_ok-push_steps-2.ensures)) in
    no_default_step c.push_steps-2.new.steps.items c.args.expr.now (default_of c.args.cx.now) made c.args.cx.now.no_default
