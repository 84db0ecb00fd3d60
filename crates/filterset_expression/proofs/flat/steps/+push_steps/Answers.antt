use Rattle.std.proofs.Common.{refl}
use Rattle.filterset_expression.specs.Connectives.{Conjunction, Disjunction, ExclusiveDisjunction}
use Rattle.filterset_expression.specs.{Expression.formula, FlatSteps.steps_of, Running.leaf_or}
use Rattle.filterset_expression.proofs.FlatSteps.{negated_steps, combined_steps}
use Rattle.filterset_expression.specs.declared.flat.steps.FlatStep.TheVariants as step
use Rattle.filterset_expression.proofs.flat.steps.+push_steps.Goals as goal

pub returns-in_ok-push-in-Not : goal.returns-in_ok-push-in-Not
returns-in_ok-push-in-Not t c =
    rw (c.in-Not.is, ← c.deref.ensures) (negated_steps (leaf_or (steps_of c.args.default_steps.now)) (formula c.deref.result.now) c.args.steps.now.items c.push_steps.new.steps.items c.push.new.self.items c.in_ok-push_steps-in-Not.ensures c.in_ok-push-in-Not.ensures.items)

pub returns-in_ok-push-in-Union : goal.returns-in_ok-push-in-Union
returns-in_ok-push-in-Union t c =
    rw (c.in-Union.is, ← c.deref-in-Union.ensures, ← c.deref-in-Union-2.ensures) (combined_steps (leaf_or (steps_of c.args.default_steps.now)) Disjunction (formula c.deref-in-Union.result.now) (formula c.deref-in-Union-2.result.now) c.args.steps.now.items c.push_steps-in-Union.new.steps.items c.push_steps-in-Union-2.new.steps.items c.push-in-Union.new.self.items step.Or refl c.in_ok-push_steps-in-Union.ensures c.in_ok-push_steps-in-Union-2.ensures c.in_ok-push-in-Union.ensures.items)

pub returns-in_ok-push-in-Intersection : goal.returns-in_ok-push-in-Intersection
returns-in_ok-push-in-Intersection t c =
    rw (c.in-Intersection.is, ← c.deref-in-Intersection.ensures, ← c.deref-in-Intersection-2.ensures) (combined_steps (leaf_or (steps_of c.args.default_steps.now)) Conjunction (formula c.deref-in-Intersection.result.now) (formula c.deref-in-Intersection-2.result.now) c.args.steps.now.items c.push_steps-in-Intersection.new.steps.items c.push_steps-in-Intersection-2.new.steps.items c.push-in-Intersection.new.self.items step.And refl c.in_ok-push_steps-in-Intersection.ensures c.in_ok-push_steps-in-Intersection-2.ensures c.in_ok-push-in-Intersection.ensures.items)

pub returns-in_ok-push-in-SymmetricDifference : goal.returns-in_ok-push-in-SymmetricDifference
returns-in_ok-push-in-SymmetricDifference t c =
    rw (c.in-SymmetricDifference.is, ← c.deref-in-SymmetricDifference.ensures, ← c.deref-in-SymmetricDifference-2.ensures) (combined_steps (leaf_or (steps_of c.args.default_steps.now)) ExclusiveDisjunction (formula c.deref-in-SymmetricDifference.result.now) (formula c.deref-in-SymmetricDifference-2.result.now) c.args.steps.now.items c.push_steps-in-SymmetricDifference.new.steps.items c.push_steps-in-SymmetricDifference-2.new.steps.items c.push-in-SymmetricDifference.new.self.items step.Xor refl c.in_ok-push_steps-in-SymmetricDifference.ensures c.in_ok-push_steps-in-SymmetricDifference-2.ensures c.in_ok-push-in-SymmetricDifference.ensures.items)
