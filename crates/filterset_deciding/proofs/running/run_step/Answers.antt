use Rattle.std.proofs.{Common.ap, Common.refl, Common.subst, Common.sym, lemmas.Result.IfOk-weaker}
use Rattle.std.specs.List.{AllByRecursion}
use Rattle.filterset_expression.specs.{Expression.compiled_leaf, FlatSteps.step_of}
use Rattle.filterset_deciding.specs.{Waiting.WaitsIn, declared.running.StackValue.StackValue}
use Rattle.filterset_deciding.proofs.{Branches.each_pushed, Waits.waits_leaf}
use Rattle.filterset_deciding.proofs.running.run_step.Goals as goal

pub returns-in_ok-push-in-Leaf-clause-waits : goal.returns-in_ok-push-in-Leaf-clause-waits
returns-in_ok-push-in-Leaf-clause-waits c = λ e branch lt here all.
    let made : StackValue = record { value = c.args.placed.value; waits_for = c.args.at } in
    subst (AllByRecursion (WaitsIn branch)) (sym c.in_ok-push-in-Leaf.ensures.items)
    (each_pushed (WaitsIn branch) c.args.stack.now.items made all (waits_leaf branch c.args.at c.args.placed (compiled_leaf c.in-Leaf._leaf.now) made lt here (ap step_of c.in-Leaf.is) refl refl))

pub returns-in-Not-clause-waits : goal.returns-in-Not-clause-waits
returns-in-Not-clause-waits c = IfOk-weaker c.negate.result _ _ (λ ran waits e branch lt here all. waits e branch all) c.negate.ensures.waits

pub returns-in-And-clause-waits : goal.returns-in-And-clause-waits
returns-in-And-clause-waits c = IfOk-weaker c.combine.result _ _ (λ ran waits e branch lt here all. waits e branch all) c.combine.ensures.waits

pub returns-in-Or-clause-waits : goal.returns-in-Or-clause-waits
returns-in-Or-clause-waits c = IfOk-weaker c.combine-in-Or.result _ _ (λ ran waits e branch lt here all. waits e branch all) c.combine-in-Or.ensures.waits

pub returns-in-Xor-clause-waits : goal.returns-in-Xor-clause-waits
returns-in-Xor-clause-waits c = IfOk-weaker c.combine-in-Xor.result _ _ (λ ran waits e branch lt here all. waits e branch all) c.combine-in-Xor.ensures.waits
