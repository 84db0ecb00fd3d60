use Rattle.std.proofs.Common.{◌≡◌, ◌∙◌, Bool, List, ap, inl, map, subst, sym}
use Rattle.std.proofs.lemmas.Result.{IfOk-weaker}
use Rattle.filterset_entries.specs.Checked.{TextRow, text_row}
use Rattle.filterset_documents.specs.Contents.{ContentRow, Holds, content_row, names_in}
use Rattle.filterset_server.proofs.BecomingLemmas.{bytes_of, none_seen}
use Rattle.filterset_server.proofs.becoming.becomes.Goals as goal

pub returns-in-Ok : goal.returns-in-Ok
returns-in-Ok c =
    let after = c.args.after.now in
    let other = content_row c.content.result in
    let is_list = none_seen (λ g. map bytes_of g.now) c.args.content.groups c.is_none-is_list.result c.is_none-is_list.ensures in
    let made : List TextRow → ContentRow = λ rows. record { groups = names_in c.in-Ok.document.rest; rows = rows } in
    let same : other ≡ made (map text_row c.in_ok-entries-in-Ok.entries.items) =
    c.content.ensures ∙ ap (λ es. made (map text_row es)) c.as_slice.ensures.value in
    let Is : Bool → Type 0 = λ b. Holds b after other in
    let Held : ContentRow → Type 0 = λ r. Holds c.is_none-is_list.result after r in
    let holds = subst Is is_list (subst Held (sym same) (c.in-Ok.ensures.read _ c.in_ok-entries-in-Ok.ensures)) in
    IfOk-weaker c.has_texts.result _ _ (λ answer decides. inl (other, holds, decides)) c.has_texts.ensures
