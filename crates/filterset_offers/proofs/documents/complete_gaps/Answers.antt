use Rattle.std.proofs.Common.{◌≡◌, ◌++◌, List, ap, map, subst, ◌∙◌}
use Rattle.std.specs.List.{AllZip}
use Rattle.std.proofs.lemmas.{List.map-append, Result.IfOk-weaker}
use Rattle.serde_json.specs.View.{view}
use Rattle.filterset_entries.specs.Placements.{spot_of}
use Rattle.filterset_offers.specs.Candidates.{Row, all_rows, row_of}
use Rattle.filterset_offers.specs.{Completion.IsItem, Completion.list_data, Names.may_lack}
use Rattle.filterset_offers.specs.{Standing.AreOffered, Standing.gap_rows, declared.candidates.Candidate.Candidate}
use Rattle.filterset_offers.proofs.documents.complete_gaps.Goals as goal

pub returns : goal.returns
returns c =
    let shown = c.args.shown.now in
    let gaps = gap_rows c.args.gaps.now in
    let known = map row_of c.in_ok-known.known.items in
    let found = map row_of c.in_ok-found.found.items in
    let items = map view c.in_ok-items.items.items in
    let rows : map row_of c.as_slice-2.result.now ≡ all_rows ++ known =
    ap (map row_of) (c.as_slice-2.ensures.value ∙ c.in_ok-append.ensures.items)
    ∙ map-append row_of c.in_ok-candidates.candidates.items c.in_ok-known.known.items
    ∙ ap (λ (rs : List Row). rs ++ known) c.in_ok-candidates.ensures in
    let offered = subst (λ (rs : List Row). AreOffered c.args.entry.now.kind gaps rs found) rows c.in_ok-found.ensures in
    let zipped = subst (λ (cs : List Candidate). AllZip (IsItem shown.encoding shown.lines.text.now (spot_of c.args.place.spot) gaps) (map row_of cs) items)
    c.as_slice-3.ensures.value c.in_ok-items.ensures in
    let lacks : c.may_lack-lacks.result ≡ may_lack known = rw c.as_slice.ensures.value at c.may_lack-lacks.ensures in
    IfOk-weaker c.list_value.result _ _
    (λ value is. (known, found, items, c.in_ok-known.ensures, offered, zipped, is ∙ ap (λ b. list_data b items) lacks))
    c.list_value.ensures
