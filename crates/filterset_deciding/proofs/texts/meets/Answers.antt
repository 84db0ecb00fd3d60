use Rattle.std.proofs.Common.{rules, arith, ◌≡◌, ◌<◌, length, get_or, refl}
use Rattle.std.proofs.lemmas.{Bool.false≢true, List.take_all}
use Rattle.filterset_deciding.specs.Texts.{IsMetBy, matcher_in}
use Rattle.filterset_deciding.proofs.Agreeing.{each_taken, not_each}
use Rattle.filterset_matchers.specs.Matcher.{MatchesName}
use Rattle.filterset_texts.proofs.Ends.{met_if, unmet_if}
use Rattle.filterset_deciding.proofs.texts.meets.Goals as goal

pub returns-then-is_matched-demand : goal.returns-then-is_matched-demand
returns-then-is_matched-demand c =
    let demands = c.args.demands.now in
    let i = c.loop-demand.demand-index in
    let d = c.demand-item.result in
    let lt : i < length demands = omega (arith, c.loop-demand-test.true) in
    let at : get_or demands i d ≡ d = search (rules, c.demand-item.is) in (
      λ e. absurd (false≢true e),
      λ all. absurd (not_each (IsMetBy c.args.text.now) demands i d lt at (λ met. unmet_if c.in_ok-is_matched.is_matched d.is_matched (MatchesName (matcher_in d) c.args.text.now) c.if-is_matched-demand.true c.in_ok-is_matched.ensures.matches met) all),
    )

pub loop-demand-preserved : goal.loop-demand-preserved
loop-demand-preserved c =
    let demands = c.args.demands.now in
    let i = c.loop-demand.demand-index in
    let d = c.demand-item.result in
    let lt : i < length demands = omega (arith, c.loop-demand-test.true) in
    let at : get_or demands i d ≡ d = search (rules, c.demand-item.is) in
    each_taken (IsMetBy c.args.text.now) demands i d lt at c.loop-demand.invariant (met_if c.in_ok-is_matched.is_matched d.is_matched (MatchesName (matcher_in d) c.args.text.now) c.if-is_matched-demand.false c.in_ok-is_matched.ensures.matches)

pub returns : goal.returns
returns c = (λ e. rw (take_all c.loop-demand.demand-index c.args.demands.now c.loop-demand-test.false) at c.loop-demand.invariant, λ all. refl)
