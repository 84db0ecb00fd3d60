use Rattle.std.proofs.{Common.◌∙◌, Common.refl, lemmas.Result.IfOk-weaker}
use Rattle.filterset_documents.proofs.ContentLemmas.{lines_are, texts_are}
use Rattle.filterset_documents.proofs.content.Filtersets.entries.Goals as goal

pub returns-in-Lines : goal.returns-in-Lines
returns-in-Lines c = rw c.in-Lines.is (IfOk-weaker c.line_entries.result _ _ (λ entries are. lines_are _ _ _ are refl) c.line_entries.ensures)

pub returns-in-Configured : goal.returns-in-Configured
returns-in-Configured c =
    let made = c.configured_texts-configured.ensures in
    rw c.in-Configured.is
    (IfOk-weaker c.configured_entries.result _ _
    (λ entries are.
    texts_are c.in-Configured.file c.in-Configured.filtersets c.in-Configured.places c.configured_texts-configured.result _ are
    (made.file, made.filtersets ∙ c.as_slice.ensures.value, made.places))
    c.configured_entries.ensures)
