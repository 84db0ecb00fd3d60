use Rattle.std.proofs.{Common.◌≡◌, Common.ap, Common.subst, Common.◌∙◌, lemmas.Result.IfOk-weaker}
use Rattle.serde_json.specs.{Data.Data, View.view}
use Rattle.filterset_entries.specs.Placements.{span_in, spot_of}
use Rattle.filterset_documents.specs.Ranges.{edit_data, IsRange}
use Rattle.filterset_faults.specs.declared.span.SourceSpan.{SourceSpan}
use Rattle.filterset_offers.specs.{Candidates.row_of, Completion.item_data, Gaps.GapRow, Standing.inserted}
use Rattle.filterset_offers.proofs.items.item_of.Goals as goal

pub returns : goal.returns
returns c =
    let shown = c.args.shown.now in
    let text = shown.lines.text.now in
    let spot = spot_of c.args.place.spot in
    let row = row_of c.args.candidate.now in
    let range = view c.in_ok-range.range in
    let At : SourceSpan → Type 0 = λ s. IsRange shown.encoding text s range in
    let ranged = subst At c.span_in.ensures c.in_ok-range.ensures in
    IfOk-weaker c.item_value.result _ _
    (λ value is.
    let For : GapRow → Type 0 = λ gap. (r : Data) × IsRange shown.encoding text (span_in spot gap.at) r
    × (view value ≡ item_data row (edit_data (inserted row gap) r)) in
    subst For c.gap_for-gap.ensures (range, ranged, is))
    c.item_value.ensures
