use Rattle.std.proofs.Common.{◌≡◌, ◌∙◌, arith, subst, sym}
use Rattle.filterset_deciding.specs.Waiting.{WaitsAt}
use Rattle.filterset_deciding.proofs.Counting.{low_count, high_count, same_length}
use Rattle.filterset_deciding.proofs.Waits.{settled_counts}
use Rattle.filterset_deciding.proofs.judging.judge_given.Goals as goal

pub returns-in-Some-true-clause-met : goal.returns-in-Some-true-clause-met
returns-in-Some-true-clause-met c = λ e answers fit.
    let seen = c.args.values.now in
    let low = low_count answers seen fit in
    let high = high_count answers seen fit in
    rw (same_length answers seen fit) (c.in-Some-true.ensures.settled _ (omega (arith, low, c.count_yes-low.ensures)) (omega (arith, high, c.count_maybe-high.ensures)) ∙ c.in-Some-true.field-0-test)

pub returns-in-Some-false-clause-unmet : goal.returns-in-Some-false-clause-unmet
returns-in-Some-false-clause-unmet c = λ e answers fit.
    let seen = c.args.values.now in
    let low = low_count answers seen fit in
    let high = high_count answers seen fit in
    rw (same_length answers seen fit) (c.in-Some-false.ensures.settled _ (omega (arith, low, c.count_yes-low.ensures)) (omega (arith, high, c.count_maybe-high.ensures)) ∙ c.in-Some-false.field-0-test)

pub returns-in-None-clause-opened : goal.returns-in-None-clause-opened
returns-in-None-clause-opened c = λ at e.
    let same : c.find_open.result ≡ at = cc in
    subst (λ k. WaitsAt k c.args.values.now) same c.find_open.ensures

pub find_open-requires : goal.find_open-requires
find_open-requires c = λ all.
    c.in-None.ensures.opened (c.count_yes-low.ensures ∙ settled_counts c.args.values.now all ∙ sym c.count_maybe-high.ensures)
