use Rattle.std.proofs.{Common.inl, Common.inr, lemmas.Result.err_from_is_err_and}
use Rattle.serde_json.specs.View.{view}
use Rattle.filterset_json.proofs.RefusalLemmas.{handed_on}
use Rattle.filterset_sources.specs.Metadata.{IsParts}
use Rattle.filterset_sources.proofs.metadata.parts.PartsEntry.read.Goals as goal

pub returns-in_err-required-3-clause-refused : goal.returns-in_err-required-3-clause-refused
returns-in_err-required-3-clause-refused c =
    handed_on c.from_residual-in_err-required-3.result c.in_err-required-3.field-0.0 c.from_residual-in_err-required-3.ensures.1
    (λ fact. let is : IsParts (view c.args.value.now) fact.0 = fact.1 in (fact.0.resolve, is.2))
    c.in_err-required-3.ensures.refused

pub returns-in_err-required-clause-place : goal.returns-in_err-required-clause-place
returns-in_err-required-clause-place c =
    let p = err_from_is_err_and c.from_residual.result c.from_residual.ensures.1 in
    rw (p.1, p.2) (λ wrong same. inl (c.in_err-required.ensures.place wrong same))

pub returns-in_err-required-2-clause-place : goal.returns-in_err-required-2-clause-place
returns-in_err-required-2-clause-place c =
    let p = err_from_is_err_and c.from_residual-in_err-required-2.result c.from_residual-in_err-required-2.ensures.1 in
    rw (p.1, p.2) (λ wrong same. inr ((_, c.in_ok-required.ensures.read), inl (c.in_err-required-2.ensures.place wrong same)))

pub returns-in_err-required-3-clause-place : goal.returns-in_err-required-3-clause-place
returns-in_err-required-3-clause-place c =
    let p = err_from_is_err_and c.from_residual-in_err-required-3.result c.from_residual-in_err-required-3.ensures.1 in
    rw (p.1, p.2) (λ wrong same. inr ((_, c.in_ok-required.ensures.read), inr ((_, c.in_ok-required-2.ensures.read), inl (c.in_err-required-3.ensures.place wrong same))))
