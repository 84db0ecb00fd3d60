use Rattle.std.proofs.Common.{arith, rules, ◌≡◌, ◌<◌, ◌∙◌, ◌++◌, ◌∷◌, [], ap, append_assoc, get_or, length, map, sym, take}
use Rattle.std.proofs.lemmas.List.{map-append, map_push, take_more}
use Rattle.filterset_display.specs.Remarks.{remark_row}
use Rattle.filterset_entries.specs.{Checked.text_row, Unread.key_remark}
use Rattle.filterset_entries.proofs.UnreadLemmas.{carets-more}
use Rattle.filterset_entries.proofs.unread.unread_remarks.Goals as goal

pub loop-entry-preserved : goal.loop-entry-preserved
loop-entry-preserved c =
    let entries = c.args.entries.now in
    let i = c.loop-entry.entry-index in
    let entry = c.entry-item.result in
    let lt : i < length entries = omega (arith, c.loop-entry-test.true) in
    let at : get_or entries i entry ≡ entry = search (rules, c.entry-item.is) in
    rw c.in_ok-push_carets.ensures.2
    (carets-more text_row entries i entry (map remark_row c.loop-entry.remarks.items) c.in_ok-push_carets.ensures.0 lt at c.loop-entry.invariant c.in_ok-push_carets.ensures.1)

pub loop-key-preserved : goal.loop-key-preserved
loop-key-preserved c =
    let keys = c.as_slice-key-items.result.now in
    let i = c.loop-key.key-index in
    let key = c.key-item.result in
    let carets = c.loop-key.invariant.0 in
    let lt : i < length keys = omega (arith, c.loop-key-test.true) in
    let at : get_or keys i key ≡ key = search (rules, c.key-item.is) in
    let more = ap (map key_remark) (take_more keys i key lt ∙ ap (λ k. take i keys ++ k ∷ []) at) ∙ map-append key_remark (take i keys) (key ∷ []) in
    let made = map_push remark_row c.loop-key.remarks.items c.in_ok-key_remark.field-0
    ∙ (λ j. c.loop-key.invariant.2 j ++ c.in_ok-key_remark.ensures j ∷ [])
    ∙ append_assoc carets (map key_remark (take i keys)) (key_remark key ∷ [])
    ∙ ap (λ rows. carets ++ rows) (sym more) in
    rw c.in_ok-push.ensures.items (carets, c.loop-key.invariant.1, made)
