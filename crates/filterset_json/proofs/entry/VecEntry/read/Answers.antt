use Rattle.std.proofs.Common.{rules, arith, map, string_bytes, subst, sym, ◌+◌, ◌<◌, ◌≡◌, length, get_or, ◌++◌, ◌∷◌, [], take, ◌∙◌, ap}
use Rattle.std.proofs.lemmas.{List.map-append, List.take_more, Result.err_from_is_err_and}
use Rattle.serde_json.specs.View.{items_view, view}
use Rattle.filterset_json.specs.Shape.{Each, IsListOf}
use Rattle.filterset_json.specs.{Paths.step_text, Places.After, declared.path.Step.TheVariants.Item}
use Rattle.filterset_json.proofs.RefusalLemmas.{handed_on}
use Rattle.filterset_json.proofs.ShapeLemmas.{Each-at, Each-push, WrongItem-at}
use Rattle.filterset_json.proofs.entry.VecEntry.read.Goals as goal

pub returns-in_err-read_at-clause-refused : goal.returns-in_err-read_at-clause-refused
returns-in_err-read_at-clause-refused g c =
    let values = c.in_ok-values.values.now in
    let i = c.loop-at.at in
    let item = c.index-values-at.result in
    let lt : i < length values = c.loop-at-test.true in
    let is : get_or values i item ≡ item = search (rules, c.index-values-at.is) in
    handed_on c.from_residual-in_err-read_at.result c.in_err-read_at.field-0.0 c.from_residual-in_err-read_at.ensures.1
    (λ fact.
    let list : IsListOf g.T.Entry.stands_for (view c.args.value.now) fact.0 = fact.1 in
    let same : items_view values ≡ list.0 = cc (c.in_ok-values.ensures.read, list.1) in
    let each : Each g.T.Entry.stands_for (items_view values) fact.0 = rw same list.2 in
    let found = Each-at g.T.Entry.stands_for values fact.0 i item lt each in
    (found.0, rw is at found.1))
    c.in_err-read_at.ensures.refused

pub returns-in_err-read_at-clause-place : goal.returns-in_err-read_at-clause-place
returns-in_err-read_at-clause-place g c =
    let P = g.T.Entry.stands_for in
    let W = g.T.Entry.is_wrong in
    let values = c.in_ok-values.values.now in
    let i = c.loop-at.at in
    let item = c.index-values-at.result in
    let lt : i < length values = c.loop-at-test.true in
    let is : item ≡ get_or values i item = c.index-values-at.is in
    let from : 0 + i ≡ i = omega arith in
    let p = err_from_is_err_and c.from_residual-in_err-read_at.result c.from_residual-in_err-read_at.ensures.1 in
    rw (p.1, p.2)
    (λ wrong same. rw c.in_ok-values.ensures.read
    (WrongItem-at P W 0 values (map g.T.Entry.row_of c.loop-at.all.items) i item (string_bytes wrong.path, wrong.expected.now) lt c.loop-at.invariant
    (subst (λ v. After (step_text (Item (0 + i))) (W (view v)) (string_bytes wrong.path, wrong.expected.now)) is
    (subst (λ n. After (step_text (Item n)) (W (view item)) (string_bytes wrong.path, wrong.expected.now)) (sym from) (c.in_err-read_at.ensures.place wrong same)))))

pub loop-at-preserved : goal.loop-at-preserved
loop-at-preserved g c =
    let values = c.in_ok-values.values.now in
    let i = c.loop-at.at in
    let item = c.index-values-at.result in
    let lt : i < length values = c.loop-at-test.true in
    let is : get_or values i item ≡ item = search (rules, c.index-values-at.is) in
    let more : take (i + 1) values ≡ take i values ++ item ∷ [] = take_more values i item lt ∙ ap (λ x. take i values ++ x ∷ []) is in
    let pushed = Each-push g.T.Entry.stands_for _ _ _ _ c.loop-at.invariant c.in_ok-read_at.ensures.read in
    rw (c.in_ok-push.ensures.items, more, map-append g.T.Entry.row_of c.loop-at.all.items (c.in_ok-read_at.field-0 ∷ [])) pushed
