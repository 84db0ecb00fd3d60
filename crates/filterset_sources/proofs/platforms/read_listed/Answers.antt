use Rattle.std.proofs.{Common.inl, Common.inr, lemmas.Result.err_from_is_err_and}
use Rattle.filterset_sources.proofs.platforms.read_listed.Goals as goal

pub returns-in_err-given_at-2-clause-place : goal.returns-in_err-given_at-2-clause-place
returns-in_err-given_at-2-clause-place c =
    let p = err_from_is_err_and c.from_residual-in_err-given_at-2.result c.from_residual-in_err-given_at-2.ensures.1 in
    rw (p.1, p.2) (λ wrong same. inr ((_, c.in_ok-given_at.ensures.read), inl (c.in_err-given_at-2.ensures.place wrong same)))

pub returns-in_err-given_at-3-clause-place : goal.returns-in_err-given_at-3-clause-place
returns-in_err-given_at-3-clause-place c =
    let p = err_from_is_err_and c.from_residual-in_err-given_at-3.result c.from_residual-in_err-given_at-3.ensures.1 in
    rw (p.1, p.2) (λ wrong same. inr ((_, c.in_ok-given_at.ensures.read), inr ((_, c.in_ok-given_at-2.ensures.read), inl (c.in_err-given_at-3.ensures.place wrong same))))

pub returns-in_err-given_at-4-clause-place : goal.returns-in_err-given_at-4-clause-place
returns-in_err-given_at-4-clause-place c =
    let p = err_from_is_err_and c.from_residual-in_err-given_at-4.result c.from_residual-in_err-given_at-4.ensures.1 in
    rw (p.1, p.2) (λ wrong same. inr ((_, c.in_ok-given_at.ensures.read), inr ((_, c.in_ok-given_at-2.ensures.read), inr ((_, c.in_ok-given_at-3.ensures.read), inl (c.in_err-given_at-4.ensures.place wrong same)))))
