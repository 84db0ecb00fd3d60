use Rattle.filterset_configuration.proofs.Reading.{handed_on, refused_wrong}
use Rattle.filterset_configuration.proofs.overrides.read_override.Goals as goal

pub returns-in_err-read_text-2-clause-refused : goal.returns-in_err-read_text-2-clause-refused
returns-in_err-read_text-2-clause-refused c =
    handed_on c.from_residual-in_err-read_text-2.result c.in_err-read_text-2.field-0.0 c.from_residual-in_err-read_text-2.ensures.1
    (λ fact. (fact.0.default_filter, fact.1.3)) c.in_err-read_text-2.ensures.refused

pub returns-in_ok-wrong_at-in-Some-clause-refused : goal.returns-in_ok-wrong_at-in-Some-clause-refused
returns-in_ok-wrong_at-in-Some-clause-refused c =
    refused_wrong c.in_ok-wrong_at-in-Some.field-0 c.in_ok-wrong_at-in-Some.ensures
    (λ fact.
    let some = c.in-Some.ensures in
    let none = fact.1.6 in
    cc)
