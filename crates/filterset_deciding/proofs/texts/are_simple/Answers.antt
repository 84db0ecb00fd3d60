use Rattle.std.proofs.Common.{rules, arith, ◌≡◌, ◌<◌, ◌∙◌, length, get_or, refl, sym}
use Rattle.std.proofs.lemmas.{Bool.false≢true, List.take_all}
use Rattle.filterset_deciding.specs.Texts.{IsSimple}
use Rattle.filterset_deciding.proofs.Agreeing.{each_taken, not_each}
use Rattle.filterset_deciding.proofs.texts.are_simple.Goals as goal

pub returns-then-not-is_simple : goal.returns-then-not-is_simple
returns-then-not-is_simple c =
    let demands = c.args.demands.now in
    let i = c.loop-demand.demand-index in
    let d = c.demand-item.result in
    let lt : i < length demands = omega (arith, c.loop-demand-test.true) in
    let at : get_or demands i d ≡ d = search (rules, c.demand-item.is) in (
      λ e. absurd (false≢true e),
      λ all. absurd (not_each (IsSimple c.args.c) demands i d lt at (λ is. false≢true (sym c.if-not-is_simple.true ∙ c.is_simple.ensures.1 is)) all),
    )

pub loop-demand-preserved : goal.loop-demand-preserved
loop-demand-preserved c =
    let demands = c.args.demands.now in
    let i = c.loop-demand.demand-index in
    let d = c.demand-item.result in
    let lt : i < length demands = omega (arith, c.loop-demand-test.true) in
    let at : get_or demands i d ≡ d = search (rules, c.demand-item.is) in
    each_taken (IsSimple c.args.c) demands i d lt at c.loop-demand.invariant (c.is_simple.ensures.0 c.if-not-is_simple.false)

pub returns : goal.returns
returns c = (λ e. rw (take_all c.loop-demand.demand-index c.args.demands.now c.loop-demand-test.false) at c.loop-demand.invariant, λ all. refl)
