use Rattle.std.proofs.Common.{rules, arith, ◌≡◌, ◌<◌, length, get_or, take}
use Rattle.std.specs.Prelude.{chars}
use Rattle.std.proofs.lemmas.List.{take_all}
use Rattle.filterset_texts.specs.Parts as part
use Rattle.filterset_deciding.specs.Texts.{IsMetBy}
use Rattle.filterset_deciding.proofs.{Agreeing.each_pushed_iff, Agreeing.take_one, Doubts.contains_at}
use Rattle.filterset_deciding.proofs.seeking.conditions_of.Goals as goal

pub loop-demand-preserved : goal.loop-demand-preserved
loop-demand-preserved c = λ text utf8.
    let demands = c.args.demands.now in
    let i = c.loop-demand.demand-index in
    let d = c.demand-item.result in
    let lt : i < length demands = omega (arith, c.loop-demand-test.true) in
    let at : get_or demands i d ≡ d = search (rules, c.demand-item.is) in
    rw (c.in_ok-push-in-Some.ensures.items, take_one demands i d lt at)
    (each_pushed_iff (part.IsMetBy (chars text)) (IsMetBy text) c.loop-demand.conditions.items c.in-Some.condition (take i demands) d
    (c.loop-demand.invariant text utf8) ((rw c.in-Some.is at c.in_ok-condition.ensures.some) text utf8))

pub returns-in-None-clause-none : goal.returns-in-None-clause-none
returns-in-None-clause-none c =
    let demands = c.args.demands.now in
    let i = c.loop-demand.demand-index in
    let d = c.demand-item.result in
    let lt : i < length demands = omega (arith, c.loop-demand-test.true) in
    let at : get_or demands i d ≡ d = search (rules, c.demand-item.is) in
    (d, contains_at demands i d lt at, rw c.in-None.is at c.in_ok-condition.ensures.none)

pub returns-clause-some : goal.returns-clause-some
returns-clause-some c = λ text utf8.
    rw (take_all c.loop-demand.demand-index c.args.demands.now c.loop-demand-test.false) at (c.loop-demand.invariant text utf8)
