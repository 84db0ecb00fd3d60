use Rattle.std.proofs.Common.{rules, arith, ◌≡◌, ◌+◌, ◌-◌, ◌<◌, ◌∙◌, ◌∷◌, ◌++◌, List, ap, drop, get_or, length, map, refl, string_bytes, subst, sym, take}
use Rattle.std.proofs.lemmas.{List.drop-drop, List.drop_more, Str.IsUtf8-drop}
use Rattle.std.specs.Str.{IsUtf8}
use Rattle.filterset_display.specs.Positions.{Text}
use Rattle.filterset_server.specs.Edits.{EditRow, IsWithin, edit_row, edited, edited_from}
use Rattle.filterset_server.proofs.EditLemmas.{AreLeft, in_text, left_more, left_next, left_within, made_more}
use Rattle.filterset_server.proofs.edits.edit_text.Goals as goal

pub returns-in_default-clause-none : goal.returns-in_default-clause-none
returns-in_default-clause-none c =
    let text = c.args.text.now in
    let edits = c.args.edits.now in
    let i = c.loop-edit.edit-index in
    let edit = c.edit-item.result in
    let at = c.loop-edit.at in
    let left : List EditRow → Type 0 = λ es. AreLeft text at es in
    let within : Text → Type 0 = λ rest. IsWithin at rest edit.at in
    let lt : i < length edits = omega (arith, c.loop-edit-test.true) in
    let is : get_or edits i edit ≡ edit = search (rules, c.edit-item.is) in
    let next = ap (map edit_row) (drop_more edits i edit lt ∙ ap (λ e. e ∷ drop (i + 1) edits) is) in
    λ are.
    let inside = left_within text at (edit_row edit) _ c.loop-edit.invariant.within (subst left next (c.loop-edit.invariant.whole are)) in
    let found = c.in_default.ensures.within.1 (subst within (sym c.loop-edit.invariant.rest) inside) in
    cc

pub loop-edit-preserved : goal.loop-edit-preserved
loop-edit-preserved c =
    let text = c.args.text.now in
    let edits = c.args.edits.now in
    let i = c.loop-edit.edit-index in
    let edit = c.edit-item.result in
    let at = c.loop-edit.at in
    let rest = c.loop-edit.rest.now in
    let gap = c.in-Some.gap.now in
    let behind = c.in-Some.behind.now in
    let before = c.loop-edit.invariant in
    let left : List EditRow → Type 0 = λ es. AreLeft text at es in
    let lt : i < length edits = omega (arith, c.loop-edit-test.true) in
    let is : get_or edits i edit ≡ edit = search (rules, c.edit-item.is) in
    let next = ap (map edit_row) (drop_more edits i edit lt ∙ ap (λ e. e ∷ drop (i + 1) edits) is) in
    let inside : IsWithin at rest edit.at = c.in-Some.ensures.within.0 refl in
    let gap_is : gap ≡ take (edit.at.from - at) rest = search rules in
    let behind_is : behind ≡ drop (edit.at.to - at) rest = search rules in
    let cut : IsWithin at (drop at text) edit.at = subst (λ (r : Text). IsWithin at r edit.at) before.rest inside in
    let (from, to, front, back) = in_text text at edit.at before.within cut in
    let far : at + (edit.at.to - at) ≡ edit.at.to = omega (arith, from, to) in
    let gapped : string_bytes c.push_str.new.self ≡ string_bytes c.loop-edit.output ++ gap = search rules in
    let new : string_bytes c.push_str-in-loop-edit.new.self ≡ string_bytes c.push_str.new.self ++ string_bytes edit.text = search rules in
    record {
      utf8 = subst IsUtf8 (sym behind_is) (IsUtf8-drop rest (edit.at.to - at) before.utf8 inside.3);
      within = back.0;
      rest = behind_is ∙ ap (drop (edit.at.to - at)) before.rest ∙ drop-drop (edit.at.to - at) at text ∙ ap (λ n. drop n text) far;
      made =
          made_more _ _ _ gap rest behind _ at (edit_row edit) _ from to
          (subst (λ (es : List EditRow). string_bytes c.loop-edit.output ++ edited_from at rest es ≡ edited text (map edit_row edits)) next before.made)
          gap_is behind_is gapped new;
      left = λ are. before.left (subst left (sym next) (left_more text at (edit_row edit) _ from to front back are));
      whole = λ are. left_next text at (edit_row edit) _ (subst left next (before.whole are));
    }
