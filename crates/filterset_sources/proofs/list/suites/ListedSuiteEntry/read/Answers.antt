use Rattle.std.proofs.{Common.inl, Common.inr, Common.string_bytes, lemmas.Result.err_from_is_err_and}
use Rattle.serde_json.specs.View.{view}
use Rattle.filterset_json.proofs.RefusalLemmas.{handed_on}
use Rattle.filterset_sources.specs.Suites.{IsListed}
use Rattle.filterset_sources.proofs.list.suites.ListedSuiteEntry.read.Goals as goal

pub returns-in_err-required-clause-refused : goal.returns-in_err-required-clause-refused
returns-in_err-required-clause-refused c =
    handed_on c.from_residual.result c.in_err-required.field-0.0 c.from_residual.ensures.1
    (λ fact. let is : IsListed (view c.args.value.now) fact.0 = fact.1 in (fact.0.0.package_id, is.0.0))
    c.in_err-required.ensures.refused

pub returns-in_err-required-2-clause-refused : goal.returns-in_err-required-2-clause-refused
returns-in_err-required-2-clause-refused c =
    handed_on c.from_residual-in_err-required-2.result c.in_err-required-2.field-0.0 c.from_residual-in_err-required-2.ensures.1
    (λ fact. let is : IsListed (view c.args.value.now) fact.0 = fact.1 in (fact.0.0.binary_id, is.0.1))
    c.in_err-required-2.ensures.refused

pub returns-in_err-required-3-clause-refused : goal.returns-in_err-required-3-clause-refused
returns-in_err-required-3-clause-refused c =
    handed_on c.from_residual-in_err-required-3.result c.in_err-required-3.field-0.0 c.from_residual-in_err-required-3.ensures.1
    (λ fact. let is : IsListed (view c.args.value.now) fact.0 = fact.1 in (string_bytes fact.0.0.binary_name, is.0.2))
    c.in_err-required-3.ensures.refused

pub returns-in_err-required-5-clause-refused : goal.returns-in_err-required-5-clause-refused
returns-in_err-required-5-clause-refused c =
    handed_on c.from_residual-in_err-required-5.result c.in_err-required-5.field-0.0 c.from_residual-in_err-required-5.ensures.1
    (λ fact. let is : IsListed (view c.args.value.now) fact.0 = fact.1 in (fact.0.0.platform, is.0.4))
    c.in_err-required-5.ensures.refused

pub returns-in_err-tests-clause-refused : goal.returns-in_err-tests-clause-refused
returns-in_err-tests-clause-refused c =
    handed_on c.from_residual-in_err-tests.result c.in_err-tests.field-0.0 c.from_residual-in_err-tests.ensures.1
    (λ fact. let is : IsListed (view c.args.value.now) fact.0 = fact.1 in (fact.0.1, is.1))
    c.in_err-tests.ensures.refused

pub returns-in_err-required-clause-place : goal.returns-in_err-required-clause-place
returns-in_err-required-clause-place c =
    let p = err_from_is_err_and c.from_residual.result c.from_residual.ensures.1 in
    rw (p.1, p.2) (λ wrong same. inl (c.in_err-required.ensures.place wrong same))

pub returns-in_err-required-2-clause-place : goal.returns-in_err-required-2-clause-place
returns-in_err-required-2-clause-place c =
    let p = err_from_is_err_and c.from_residual-in_err-required-2.result c.from_residual-in_err-required-2.ensures.1 in
    rw (p.1, p.2) (λ wrong same. inr ((_, c.in_ok-required.ensures.read), inl (c.in_err-required-2.ensures.place wrong same)))

pub returns-in_err-required-3-clause-place : goal.returns-in_err-required-3-clause-place
returns-in_err-required-3-clause-place c =
    let p = err_from_is_err_and c.from_residual-in_err-required-3.result c.from_residual-in_err-required-3.ensures.1 in
    rw (p.1, p.2) (λ wrong same. inr ((_, c.in_ok-required.ensures.read), inr ((_, c.in_ok-required-2.ensures.read), inl (c.in_err-required-3.ensures.place wrong same))))

pub returns-in_err-required-4-clause-place : goal.returns-in_err-required-4-clause-place
returns-in_err-required-4-clause-place c =
    let p = err_from_is_err_and c.from_residual-in_err-required-4.result c.from_residual-in_err-required-4.ensures.1 in
    rw (p.1, p.2) (λ wrong same. inr ((_, c.in_ok-required.ensures.read), inr ((_, c.in_ok-required-2.ensures.read), inr ((_, c.in_ok-required-3.ensures.read), inl (c.in_err-required-4.ensures.place wrong same)))))

pub returns-in_err-required-5-clause-place : goal.returns-in_err-required-5-clause-place
returns-in_err-required-5-clause-place c =
    let p = err_from_is_err_and c.from_residual-in_err-required-5.result c.from_residual-in_err-required-5.ensures.1 in
    rw (p.1, p.2) (λ wrong same. inr ((_, c.in_ok-required.ensures.read), inr ((_, c.in_ok-required-2.ensures.read), inr ((_, c.in_ok-required-3.ensures.read), inr ((_, c.in_ok-required-4.ensures.read), inl (c.in_err-required-5.ensures.place wrong same))))))

pub returns-in_err-optional-clause-place : goal.returns-in_err-optional-clause-place
returns-in_err-optional-clause-place c =
    let p = err_from_is_err_and c.from_residual-in_err-optional.result c.from_residual-in_err-optional.ensures.1 in
    rw (p.1, p.2) (λ wrong same. inr ((_, c.in_ok-required.ensures.read), inr ((_, c.in_ok-required-2.ensures.read), inr ((_, c.in_ok-required-3.ensures.read), inr ((_, c.in_ok-required-4.ensures.read), inr ((_, c.in_ok-required-5.ensures.read), inl (c.in_err-optional.ensures.place wrong same)))))))

pub returns-in_err-tests-clause-place : goal.returns-in_err-tests-clause-place
returns-in_err-tests-clause-place c =
    let p = err_from_is_err_and c.from_residual-in_err-tests.result c.from_residual-in_err-tests.ensures.1 in
    rw (p.1, p.2) (λ wrong same. inr ((_, c.in_ok-required.ensures.read), inr ((_, c.in_ok-required-2.ensures.read), inr ((_, c.in_ok-required-3.ensures.read), inr ((_, c.in_ok-required-4.ensures.read), inr ((_, c.in_ok-required-5.ensures.read), inr ((_, c.in_ok-optional.ensures.read), inl (c.in_err-tests.ensures.place wrong same))))))))
