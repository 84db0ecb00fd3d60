use Rattle.filterset_expression.proofs.PackageIds.{copied_one}
use Rattle.filterset_expression.proofs.leaves.copy_ids.Goals as goal

pub loop-id-preserved : goal.loop-id-preserved
loop-id-preserved c =
    copied_one c.args.ids.now.keys c.loop-id.copy.keys c.loop-id.id-iterator c.in-Some.id.now c.next.new.self c.insert.new.self.keys c.into_iter-id-iterator.ensures.into_iter_gives.4 c.loop-id.invariant c.in-Some.ensures.steps (rw (← c.in_ok-try_clone.ensures) c.in_ok-insert.ensures.keys)
