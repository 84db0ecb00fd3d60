use Rattle.std.proofs.Common.{◌≡◌, ◌∙◌, codes, inl, inr, sym}
use Rattle.serde_json.specs.{Data.Data, Data.Members, Data.object, Data.string, View.view}
use Rattle.filterset_json.specs.Shape.{Required}
use Rattle.filterset_json.proofs.RefusalLemmas.{handed_on}
use Rattle.filterset_record.specs.Record.{FiltersetRow, IsFilterset, IsFiltersetKind}
use Rattle.filterset_record.proofs.record.filtersets.FiltersetEntryEntry.read.Goals as goal

-- a filterset that is an object has its kind
kind_of : (d : Data) (row : FiltersetRow) (fields : Members) → d ≡ object fields → IsFilterset d row → Required (codes "kind") IsFiltersetKind d row.kind
kind_of d row fields same (inl text) = let e : string row.text ≡ object fields = sym text.0 ∙ same in cc
kind_of d row fields same (inr parts) = parts.2

pub returns-in_err-required-2-clause-refused : goal.returns-in_err-required-2-clause-refused
returns-in_err-required-2-clause-refused c =
    handed_on c.from_residual-in_err-required-2.result c.in_err-required-2.field-0.0 c.from_residual-in_err-required-2.ensures.1
    (λ fact. let is : IsFilterset (view c.args.value.now) fact.0 = fact.1 in
    (fact.0.kind, kind_of (view c.args.value.now) fact.0 c.in_ok-check_keys.ensures.ok.0 c.in_ok-check_keys.ensures.ok.1 is))
    c.in_err-required-2.ensures.refused
