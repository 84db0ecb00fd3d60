use Rattle.std.proofs.lemmas.Result.{IfOk-weaker}
use Rattle.serde_json.specs.View.{view}
use Rattle.filterset_listing.proofs.MarkingLemmas.{compact_json}
use Rattle.filterset_listing.proofs.listing.json.list_json.Goals as goal

pub returns : goal.returns
returns c =
    let marked = c.in_ok-mark_each in
    let written = c.to_string in
    IfOk-weaker written.result _ _ (λ text compact. (view marked.field-0, marked.ensures, compact))
    (compact_json (view marked.field-0) written.result written.ensures.text written.ensures.order written.ensures.reads_back)
