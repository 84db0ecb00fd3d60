use Rattle.std.proofs.{Common.inl, lemmas.Result.err_from_is_err_and}
use Rattle.filterset_sources.proofs.metadata.parts.DependencyEntry.read.Goals as goal

pub returns-in_err-required-clause-place : goal.returns-in_err-required-clause-place
returns-in_err-required-clause-place c =
    let p = err_from_is_err_and c.from_residual.result c.from_residual.ensures.1 in
    rw (p.1, p.2) (λ wrong same. inl (c.in_err-required.ensures.place wrong same))
