use Rattle.std.proofs.Common.{arith, ◌≡◌, ◌<◌, ℕ, List, length, get_or, subst, sym, take}
use Rattle.std.specs.{Prelude.All, Borrow.Bor}
use Rattle.std.proofs.lemmas.List.{take_all}
use Rattle.filterset_expression.specs.{Contexts.default_of, declared.query.TestQuery.TestQuery}
use Rattle.filterset_deciding.specs.{Listed.AreOfQuestion, Listed.IsMetAsked, declared.listed.LaidQuestion.LaidQuestion}
use Rattle.filterset_deciding.proofs.Asking.{all_more, first_unmet, met_by_all}
use Rattle.filterset_deciding.proofs.listed.find_listed.Goals as goal

pub loop-test-preserved : goal.loop-test-preserved
loop-test-preserved c =
    let tests = c.args.listed.tests.now in
    let i = c.loop-test.test-index in
    let test = c.test-item.result in
    let laid : LaidQuestion = record { question = c.args.question; given = c.in_ok-new.field-0; exprs = c.in_ok-lay_out.field-0 } in
    let Met : TestQuery → Type 0 = λ query. All (λ (g : Bor (List ℕ)). IsMetAsked laid query g.now) c.groups_to_ask-asked.result.now in
    let lt : i < length tests = omega (arith, c.loop-test-test.true) in
    let met = rw c.in_default.is at c.in_ok-witness.ensures.none in
    all_more Met tests i test lt c.loop-test.invariant (subst Met c.test-item.is met)

pub returns-clause-none : goal.returns-clause-none
returns-clause-none c =
    let laid : LaidQuestion = record { question = c.args.question; given = c.in_ok-new.field-0; exprs = c.in_ok-lay_out.field-0 } in
    let default = default_of c.args.cx.now in
    let of : AreOfQuestion c.args.given.now default c.args.exprs.now laid = record { given_laid = c.in_ok-new.ensures.flat; exprs_laid = c.in_ok-lay_out.ensures } in
    let met = rw (take_all c.loop-test.test-index c.args.listed.tests.now c.loop-test-test.false) at c.loop-test.invariant in
    met_by_all laid c.args.given.now default c.args.exprs.now c.args.listed.tests.now c.args.listed.groups.now of
    (λ k d lt. c.groups_to_ask-asked.ensures.enough (get_or c.args.listed.tests.now k d) (met k d lt))

pub returns-in-Some-clause-some : goal.returns-in-Some-clause-some
returns-in-Some-clause-some c =
    let tests = c.args.listed.tests.now in
    let groups = c.args.listed.groups.now in
    let i = c.loop-test.test-index in
    let test = c.test-item.result in
    let laid : LaidQuestion = record { question = c.args.question; given = c.in_ok-new.field-0; exprs = c.in_ok-lay_out.field-0 } in
    let given = c.args.given.now in
    let default = default_of c.args.cx.now in
    let exprs = c.args.exprs.now in
    let of : AreOfQuestion given default exprs laid = record { given_laid = c.in_ok-new.ensures.flat; exprs_laid = c.in_ok-lay_out.ensures } in
    let lt : i < length tests = omega (arith, c.loop-test-test.true) in
    let at : get_or tests i test ≡ test = sym c.test-item.is in
    let found = (rw c.in-Some.is at c.in_ok-witness.ensures.some) given default exprs of in
    first_unmet c.args.question given default exprs tests groups c.groups_to_ask-asked.result.now i test c.in-Some.witness.test c.in-Some.witness.picks.items lt at
    c.groups_to_ask-asked.ensures.within found
    (met_by_all laid given default exprs (take i tests) groups of (λ k d lt. c.groups_to_ask-asked.ensures.enough (get_or (take i tests) k d) (c.loop-test.invariant k d lt)))
