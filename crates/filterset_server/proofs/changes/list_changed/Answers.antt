use Rattle.std.proofs.Common.{◌≡◌, ◌<◌, ◌∙◌, List, ℕ, ap, arith, get_or, length, refl, rules, slice_set}
use Rattle.std.proofs.lemmas.List.{map-set, take_all}
use Rattle.filterset_entries.specs.Checked.{text_row}
use Rattle.filterset_server.proofs.ActionLemmas.{now_of, row_next, text_in}
use Rattle.filterset_server.proofs.changes.list_changed.Goals as goal

pub returns : goal.returns
returns c =
    let all = take_all c.loop-entry.entry-index c.args.entries.now c.loop-entry-test.false in
    map-set now_of c.loop-entry.texts.items c.args.at c.args.new
    ∙ ap (λ (xs : List (List ℕ)). slice_set xs c.args.at c.args.new.now) (rw all at c.loop-entry.invariant)

pub loop-entry-init : goal.loop-entry-init
loop-entry-init c = rw c.in_ok-texts.ensures.items refl

pub loop-entry-preserved : goal.loop-entry-preserved
loop-entry-preserved c =
    let entries = c.args.entries.now in
    let i = c.loop-entry.entry-index in
    let entry = c.entry-item.result in
    let lt : i < length entries = omega (arith, c.loop-entry-test.true) in
    let at : get_or entries i entry ≡ entry = search (rules, c.entry-item.is) in
    rw c.in_ok-push.ensures.items
    (row_next text_row text_in now_of entries i entry c.loop-entry.texts.items _ lt at c.loop-entry.invariant refl)
