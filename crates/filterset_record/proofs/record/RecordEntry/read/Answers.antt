use Rattle.std.proofs.Common.{[]}
use Rattle.serde_json.specs.View.{view}
use Rattle.filterset_json.proofs.RefusalLemmas.{handed_on}
use Rattle.filterset_record.specs.Record.{IsRecord}
use Rattle.filterset_record.proofs.record.RecordEntry.read.Goals as goal

pub returns-in_err-packages-clause-refused : goal.returns-in_err-packages-clause-refused
returns-in_err-packages-clause-refused c =
    handed_on c.from_residual-in_err-packages.result c.in_err-packages.field-0.0 c.from_residual-in_err-packages.ensures.1
    (λ fact. let is : IsRecord (view c.args.value.now) fact.0 = fact.1 in (fact.0.packages, [], is.2))
    c.in_err-packages.ensures.refused

pub returns-in_err-required-clause-refused : goal.returns-in_err-required-clause-refused
returns-in_err-required-clause-refused c =
    handed_on c.from_residual-in_err-required.result c.in_err-required.field-0.0 c.from_residual-in_err-required.ensures.1
    (λ fact. let is : IsRecord (view c.args.value.now) fact.0 = fact.1 in (fact.0.filtersets, is.1))
    c.in_err-required.ensures.refused

pub returns-in_err-optional-2-clause-refused : goal.returns-in_err-optional-2-clause-refused
returns-in_err-optional-2-clause-refused c =
    handed_on c.from_residual-in_err-optional-2.result c.in_err-optional-2.field-0.0 c.from_residual-in_err-optional-2.ensures.1
    (λ fact. let is : IsRecord (view c.args.value.now) fact.0 = fact.1 in (fact.0.binaries, [], is.5))
    c.in_err-optional-2.ensures.refused
