use Rattle.serde_json.specs.View.{view}
use Rattle.filterset_json.proofs.RefusalLemmas.{handed_on}
use Rattle.filterset_record.specs.Record.{IsTarget}
use Rattle.filterset_record.proofs.record.packages.TargetEntryEntry.read.Goals as goal

pub returns-in_err-required-clause-refused : goal.returns-in_err-required-clause-refused
returns-in_err-required-clause-refused c =
    handed_on c.from_residual-in_err-required.result c.in_err-required.field-0.0 c.from_residual-in_err-required.ensures.1
    (λ fact. let is : IsTarget (view c.args.value.now) fact.0 = fact.1 in (fact.0.id, is.1))
    c.in_err-required.ensures.refused
