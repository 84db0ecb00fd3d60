use Rattle.std.proofs.Common.{rules, arith, ◌≡◌, ◌<◌, ◌∙◌, true, length, get_or, sym}
use Rattle.std.proofs.lemmas.{Bool.false≢true, List.take_all}
use Rattle.filterset_deciding.specs.{Texts.IsEqual, Texts.IsMetBy, Texts.matcher_in, declared.demand.Demand.Demand}
use Rattle.filterset_deciding.proofs.Agreeing.{each_at, each_taken}
use Rattle.filterset_deciding.proofs.texts.only_text.Goals as goal

pub returns-in-Some-clause-only : goal.returns-in-Some-clause-only
returns-in-Some-clause-only c = λ text utf8 met.
    let demands = c.args.demands.now in
    let i = c.loop-demand.demand-index in
    let d = c.demand-item.result in
    let lt : i < length demands = omega (arith, c.loop-demand-test.true) in
    let at : get_or demands i d ≡ d = search (rules, c.demand-item.is) in
    let own = each_at (IsMetBy text) demands i d lt at met in
    ((rw c.in-Some.is at c.in_ok-text.ensures.some) text utf8).0 (own.0 c.if-not-demand.false)

pub loop-demand-preserved : goal.loop-demand-preserved
loop-demand-preserved c =
    let demands = c.args.demands.now in
    let i = c.loop-demand.demand-index in
    let d = c.demand-item.result in
    let lt : i < length demands = omega (arith, c.loop-demand-test.true) in
    let at : get_or demands i d ≡ d = search (rules, c.demand-item.is) in
    each_taken (λ (e : Demand). e.is_matched ≡ true → ¬ IsEqual (matcher_in e)) demands i d lt at c.loop-demand.invariant (λ has. rw c.in_default.is at c.in_ok-text.ensures.none)

pub loop-demand-preserved-then-not-demand : goal.loop-demand-preserved-then-not-demand
loop-demand-preserved-then-not-demand c =
    let demands = c.args.demands.now in
    let i = c.loop-demand.demand-index in
    let d = c.demand-item.result in
    let lt : i < length demands = omega (arith, c.loop-demand-test.true) in
    let at : get_or demands i d ≡ d = search (rules, c.demand-item.is) in
    each_taken (λ (e : Demand). e.is_matched ≡ true → ¬ IsEqual (matcher_in e)) demands i d lt at c.loop-demand.invariant (λ has. absurd (false≢true (sym c.if-not-demand.true ∙ has)))

pub returns-clause-none : goal.returns-clause-none
returns-clause-none c = rw (take_all c.loop-demand.demand-index c.args.demands.now c.loop-demand-test.false) at c.loop-demand.invariant
