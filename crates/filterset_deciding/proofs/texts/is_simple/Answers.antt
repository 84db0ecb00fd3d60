use Rattle.filterset_deciding.proofs.texts.is_simple.Goals as goal

pub returns-in-Equal : goal.returns-in-Equal
returns-in-Equal c =
    let own = rw c.as_str.ensures.value at c.is_free.ensures in
    rw c.in-Equal.is (λ e. (tt, own.0 e), λ h. own.1 h.1)

pub returns-in-Contains : goal.returns-in-Contains
returns-in-Contains c =
    let own = rw c.as_str-in-Contains.ensures.value at c.is_free-in-Contains.ensures in
    rw c.in-Contains.is (λ e. (tt, own.0 e), λ h. own.1 h.1)
