use Rattle.std.proofs.Common.{Some, arith, refl, subst, sym}
use Rattle.filterset_expression.specs.{Expression.compiled_leaf, FlatSteps.Push, FlatSteps.step_of}
use Rattle.filterset_deciding.specs.Known.{IsKnownStep}
use Rattle.filterset_deciding.proofs.Sizes.{open_one, open_some}
use Rattle.filterset_deciding.proofs.branch.settle_step.Goals as goal

pub returns-then-is_here : goal.returns-then-is_here
returns-then-is_here c =
    let none = open_some (step_of c.args.placed.step) c.args.value in
    record {
      step = refl;
      known = λ test says leaf before. subst (λ s. IsKnownStep test s (Some c.args.value)) (sym (leaf c.if-is_here.true)) says;
      fewer = omega (arith, none);
      here = λ e. none;
    }

pub returns-in_ok-inferred-in-Leaf-None-clause-known :
    goal.returns-in_ok-inferred-in-Leaf-None-clause-known
returns-in_ok-inferred-in-Leaf-None-clause-known c = λ test says leaf before.
    rw c.in-Leaf-None.is-0 (c.in_ok-inferred-in-Leaf-None.ensures test says)

pub returns-in_ok-inferred-in-Leaf-None-clause-fewer :
    goal.returns-in_ok-inferred-in-Leaf-None-clause-fewer
returns-in_ok-inferred-in-Leaf-None-clause-fewer c =
    rw (c.in-Leaf-None.is-0, c.in-Leaf-None.is-1) (open_one (Push (compiled_leaf c.in-Leaf-None.other.now)) c.in_ok-inferred-in-Leaf-None.inferred)
