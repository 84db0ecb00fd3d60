use Rattle.std.proofs.Common.{◌≡◌, refl, rules, subst, sym}
use Rattle.std.specs.List.{AllByRecursion}
use Rattle.filterset_expression.specs.Connectives.{kleene_not}
use Rattle.filterset_deciding.specs.{Waiting.WaitsIn, declared.running.StackValue.StackValue}
use Rattle.filterset_deciding.proofs.{Branches.each_before, Branches.each_pushed, Waits.waits_negated}
use Rattle.filterset_deciding.proofs.running.negate.Goals as goal

pub returns-clause-waits : goal.returns-clause-waits
returns-clause-waits c = λ e branch all.
    let first = each_before (WaitsIn branch) c.pop.new.self.items c.in-Some.operand (subst (AllByRecursion (WaitsIn branch)) c.in-Some.ensures.items all) in
    let made : StackValue = record { value = c.logic_not.result; waits_for = c.in-Some.operand.waits_for } in
    let v : c.logic_not.result ≡ kleene_not c.in-Some.operand.value = search rules in
    subst (AllByRecursion (WaitsIn branch)) (sym c.in_ok-push.ensures.items)
    (each_pushed (WaitsIn branch) c.pop.new.self.items made first.0 (waits_negated branch c.in-Some.operand made v refl first.1))
