use Rattle.std.proofs.Common.{rules, arith, ◌≡◌, ◌<◌, length, get_or}
use Rattle.std.proofs.lemmas.Grind.{common_steps}
use Rattle.filterset_deciding.proofs.running.run.Goals as goal

pub loop-at-preserved : goal.loop-at-preserved
loop-at-preserved c =
    let branch = c.args.branch.now in
    let i = c.loop-at.at in
    let p = c.index-branch-at.result in
    let lt : i < length branch = omega (arith, c.loop-at-test.true) in
    let here : get_or branch i p ≡ p = search (rules, c.index-branch-at.is) in
    record {
      ran = first_of (search rules, grind (arith, common_steps));
      waits = c.in_ok-run_step.ensures.waits c.if-not-branch.false branch lt here c.loop-at.invariant.waits;
    }
