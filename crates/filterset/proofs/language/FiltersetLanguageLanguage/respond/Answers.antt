use Rattle.std.proofs.{Common.inl, Common.inr, Common.map, lemmas.Result.IfOk-weaker}
use Rattle.filterset_entries.specs.Checked.{text_row}
use Rattle.filterset_documents.specs.Contents.{ContentRow, content_row, names_in}
use Rattle.filterset.proofs.language.FiltersetLanguageLanguage.respond.Goals as goal

pub returns-in-Ok : goal.returns-in-Ok
returns-in-Ok c =
    let content : ContentRow = record { groups = names_in c.in-Ok.open.rest; rows = map text_row c.in_ok-entries-in-Ok.entries.items } in
    let read = c.in-Ok.ensures.read content.rows c.in_ok-entries-in-Ok.ensures in
    let holds = rw (c.is_list-is_list.ensures, c.as_str.ensures.value, c.as_str-text.ensures.value) at read in
    let responds = rw (c.content-content.ensures, c.as_slice.ensures.value, c.as_str-uri.ensures.value, c.in_ok-lines.ensures, c.as_str-text.ensures.value) at c.respond_to.ensures in
    IfOk-weaker c.respond_to.result _ _ (λ value is. inl (content, holds, is)) responds
