use Rattle.filterset_documents.proofs.values.value_warning.Goals as goal

pub returns : goal.returns
returns c =
    rw (c.value_span.ensures, c.as_str-2.ensures.value, c.in_ok-message.ensures, c.as_str.ensures.value) at c.diagnostic_at.ensures
