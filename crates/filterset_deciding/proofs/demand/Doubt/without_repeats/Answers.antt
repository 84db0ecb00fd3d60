use Rattle.std.proofs.Common.{rules, arith, ◌≡◌, ◌<◌, ◌≤◌, ◌++◌, ◌∷◌, [], length, get_or, take, subst}
use Rattle.std.specs.Prelude.{Contains}
use Rattle.std.proofs.lemmas.List.{take_all}
use Rattle.filterset_deciding.specs.Texts.{IsAmong}
use Rattle.filterset_deciding.proofs.{Agreeing.each_taken, Branches.each_pushed, Doubts.contains_at, Doubts.each_weaker}
use Rattle.filterset_deciding.proofs.Parts.{among_comparisons, among_left, among_own, among_unsearched}
use Rattle.filterset_deciding.proofs.demand.Doubt.without_repeats.Goals.{then-not-is_repeated+in_ok-push, else-not-is_repeated}
use Rattle.filterset_deciding.proofs.demand.Doubt.without_repeats.Goals as goal

pub loop-demand-preserved : goal.loop-demand-preserved
loop-demand-preserved c =
    let all = c.args.self.now.demands.items in
    let items = c.deref-demand-items.result.now in
    let i = c.loop-demand.demand-index in
    let d = c.demand-item.result in
    let kept = c.loop-demand.demands.items in
    let same : items ≡ all = c.deref-demand-items.ensures.value in
    let within : i < length items = omega (arith, c.loop-demand-test.true) in
    let here : get_or items i d ≡ d = search (rules, c.demand-item.is) in
    let lt : i < length all = subst (λ xs. i < length xs) same within in
    let at : get_or all i d ≡ d = subst (λ xs. get_or xs i d ≡ d) same here in
    elim c.if-not-is_repeated.branch [
      | then-not-is_repeated+in_ok-push w ↦ record {
        some = rw (w.demands-is, w.in_ok-push.ensures.items) (each_pushed (Contains all) kept d c.loop-demand.invariant.some (contains_at all i d lt at));
        among = rw (w.demands-is, w.in_ok-push.ensures.items)
            (each_taken (IsAmong (kept ++ d ∷ [])) all i d lt at
            (each_weaker (IsAmong kept) (IsAmong (kept ++ d ∷ [])) (take i all) (λ e is. among_left kept (d ∷ []) e is) c.loop-demand.invariant.among) (among_own kept d));
      }
      | else-not-is_repeated w ↦ record {
        some = rw w.demands-is c.loop-demand.invariant.some;
        among = rw w.demands-is
            (each_taken (IsAmong kept) all i d lt at c.loop-demand.invariant.among
            (rw c.as_slice.ensures.value at (c.first_demands.ensures d (c.is_repeated.ensures w.if-not-is_repeated.false))));
      }
    ]

pub returns-clause-comparisons : goal.returns-clause-comparisons
returns-clause-comparisons c =
    let all = c.args.self.now.demands.items in
    let i = c.loop-demand.demand-index in
    let past : length all ≤ i = subst (λ xs. length xs ≤ i) c.deref-demand-items.ensures.value c.loop-demand-test.false in
    among_comparisons c.loop-demand.demands.items all (rw (take_all i all past) at c.loop-demand.invariant.among)

pub returns-clause-unsearched : goal.returns-clause-unsearched
returns-clause-unsearched c =
    let all = c.args.self.now.demands.items in
    let i = c.loop-demand.demand-index in
    let past : length all ≤ i = subst (λ xs. length xs ≤ i) c.deref-demand-items.ensures.value c.loop-demand-test.false in
    among_unsearched c.loop-demand.demands.items all (rw (take_all i all past) at c.loop-demand.invariant.among)
