use Rattle.std.proofs.Common.{subst, sym}
use Rattle.std.specs.List.{AllByRecursion}
use Rattle.filterset_deciding.specs.Waiting.{WaitsIn}
use Rattle.filterset_deciding.proofs.Branches.{each_before, each_pushed}
use Rattle.filterset_deciding.proofs.running.combine.Goals as goal

pub returns-clause-waits : goal.returns-clause-waits
returns-clause-waits c = λ e branch all.
    let first = each_before (WaitsIn branch) c.pop.new.self.items c.in-Some.right (subst (AllByRecursion (WaitsIn branch)) c.in-Some.ensures.items all) in
    let second = each_before (WaitsIn branch) c.pop-2.new.self.items c.in-Some-pop.left (subst (AllByRecursion (WaitsIn branch)) c.in-Some-pop.ensures.items first.0) in
    subst (AllByRecursion (WaitsIn branch)) (sym c.in_ok-push.ensures.items)
    (each_pushed (WaitsIn branch) c.pop-2.new.self.items c.connect_values.result second.0 (c.connect_values.ensures.waits branch second.1 first.1))
