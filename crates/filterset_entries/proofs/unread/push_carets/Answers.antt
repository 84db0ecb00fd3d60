use Rattle.std.proofs.Common.{arith, ◌≡◌, ◌<◌, ◌∙◌, ◌++◌, ◌∷◌, [], ap, append_assoc, get_or, length, map, option_map, string_bytes, sym, take}
use Rattle.std.proofs.lemmas.List.{map-append, map_push, take_more}
use Rattle.filterset_display.specs.Remarks.{RemarkRow, remark_row}
use Rattle.filterset_faults.specs.declared.span.SourceSpan.{SourceSpan}
use Rattle.filterset_entries.specs.{Placements.placement_of, Unread.caret_remark, Unread.found_span}
use Rattle.filterset_entries.proofs.unread.push_carets.Goals as goal

pub loop-span-preserved : goal.loop-span-preserved
loop-span-preserved c =
    let spans = c.as_slice-span-items.result.now in
    let i = c.loop-span.span-index in
    let entry = c.args.entry.now in
    let none : SourceSpan = record { offset = 0; len = 0 } in
    let f : SourceSpan → RemarkRow = λ s. caret_remark (string_bytes entry.origin) (found_span (option_map placement_of entry.place) s) in
    let old = map remark_row c.args.remarks.now.items in
    let lt : i < length spans = omega (arith, c.loop-span-test.true) in
    let row : remark_row c.in_ok-caret_remark.field-0 ≡ f (get_or spans i none) =
    c.in_ok-caret_remark.ensures ∙ (λ j. caret_remark (c.as_str.ensures.value j) (c.found_span-span.ensures j)) in
    rw c.in_ok-push.ensures.items
    (map_push remark_row c.loop-span.remarks.items c.in_ok-caret_remark.field-0
    ∙ (λ j. c.loop-span.invariant j ++ row j ∷ [])
    ∙ append_assoc old (map f (take i spans)) (f (get_or spans i none) ∷ [])
    ∙ ap (λ rows. old ++ rows) (sym (map-append f (take i spans) (get_or spans i none ∷ [])) ∙ ap (map f) (sym (take_more spans i none lt))))
