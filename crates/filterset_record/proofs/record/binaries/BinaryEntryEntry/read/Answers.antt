use Rattle.serde_json.specs.View.{view}
use Rattle.filterset_json.proofs.RefusalLemmas.{handed_on}
use Rattle.filterset_record.specs.Record.{IsBinary}
use Rattle.filterset_record.proofs.record.binaries.BinaryEntryEntry.read.Goals as goal

pub returns-in_err-required-5-clause-refused : goal.returns-in_err-required-5-clause-refused
returns-in_err-required-5-clause-refused c =
    handed_on c.from_residual-in_err-required-5.result c.in_err-required-5.field-0.0 c.from_residual-in_err-required-5.ensures.1
    (λ fact. let is : IsBinary (view c.args.value.now) fact.0 = fact.1 in (fact.0.platform, is.5))
    c.in_err-required-5.ensures.refused
