use Rattle.std.proofs.Common.{◌+◌, drop, map, ap, refl, subst, sym}
use Rattle.std.proofs.lemmas.List.{drop_all}
use Rattle.filterset_expression.specs.FlatExpressions.{IsTold}
use Rattle.filterset_listing.specs.{Asking.ExprPicks, Overrides.Finishes, Overrides.given_of}
use Rattle.filterset_listing.proofs.GroupLemmas.{answer_same, answer_told}
use Rattle.filterset_listing.proofs.WalkLemmas.{finished, from_row, row_at}
use Rattle.filterset_listing.proofs.groups.answer.Goals as goal

pub returns-in-Some : goal.returns-in-Some
returns-in-Some c expr default overrides is told =
    answer_told c.args.flat.now expr default overrides c.args.query.now c.in-Some.answer is
    (subst (IsTold c.args.flat.now c.args.query.now.binary_query) c.in-Some.is c.requires)

pub returns-in-Decided : goal.returns-in-Decided
returns-in-Decided c expr default overrides is told =
    let query = c.args.query.now in
    let Is = ExprPicks default expr query in
    let rows = c.args.rows.now in
    let i = c.loop-row.row-index in
    let row = c.row-item.result in
    let steps = c.in_ok-answer.ensures expr default is (row_at default query.binary_query rows i row c.loop-row-test.true (sym c.row-item.is) told.0) in
    let ends = rw c.in-Decided.is at steps in
    answer_same default query.binary_query overrides (map given_of rows) query Is c.in-Decided.answer told.1 refl
    (c.loop-row.invariant expr default is told.0 c.in-Decided.answer
    (from_row default query Is c.loop-row.seen rows i row c.in-Decided.answer c.loop-row-test.true (sym c.row-item.is) (ends (map given_of (drop (i + 1) rows)))))

pub loop-row-preserved : goal.loop-row-preserved
loop-row-preserved c expr default is may answer finishes =
    let query = c.args.query.now in
    let Is = ExprPicks default expr query in
    let rows = c.args.rows.now in
    let i = c.loop-row.row-index in
    let row = c.row-item.result in
    let steps = c.in_ok-answer.ensures expr default is (row_at default query.binary_query rows i row c.loop-row-test.true (sym c.row-item.is) may) in
    let goes_on = rw c.in-Open.is at steps in
    c.loop-row.invariant expr default is may answer
    (from_row default query Is c.loop-row.seen rows i row answer c.loop-row-test.true (sym c.row-item.is) (goes_on (map given_of (drop (i + 1) rows)) answer finishes))

pub returns : goal.returns
returns c expr default overrides is told =
    let query = c.args.query.now in
    let Is = ExprPicks default expr query in
    let rows = c.args.rows.now in
    let ends = finished default query Is c.in_ok-last.last (c.in_ok-last.ensures expr default is) c.loop-row.seen c.join.result c.join.ensures in
    answer_same default query.binary_query overrides (map given_of rows) query Is c.join.result told.1 refl
    (c.loop-row.invariant expr default is told.0 c.join.result
    (subst (λ os. Finishes default query Is c.loop-row.seen os c.join.result) (sym (ap (map given_of) (drop_all c.loop-row.row-index rows c.loop-row-test.false))) ends))
