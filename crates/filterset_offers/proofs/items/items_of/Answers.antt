use Rattle.std.proofs.Common.{arith, ◌<◌, List, length, map, subst, sym, take}
use Rattle.std.proofs.lemmas.List.{map_more}
use Rattle.std.specs.List.{AllZip}
use Rattle.serde_json.specs.View.{view}
use Rattle.filterset_entries.specs.Placements.{spot_of}
use Rattle.filterset_offers.specs.{Candidates.Row, Candidates.row_of, Completion.IsItem, Standing.gap_rows}
use Rattle.filterset_offers.proofs.StandingLemmas.{zip-pushed}
use Rattle.filterset_offers.proofs.items.items_of.Goals as goal

pub loop-candidate-preserved : goal.loop-candidate-preserved
loop-candidate-preserved c =
    let shown = c.args.shown.now in
    let candidates = c.args.candidates.now in
    let i = c.loop-candidate.candidate-index in
    let lt : i < length candidates = omega (arith, c.loop-candidate-test.true) in
    let R = IsItem shown.encoding shown.lines.text.now (spot_of c.args.place.spot) (gap_rows c.args.gaps.now) in
    let P : List Row → Type 0 = λ rows. AllZip R rows (map view c.push.new.self.items) in
    subst P (sym (map_more row_of candidates i _ lt))
    (zip-pushed R view (map row_of (take i candidates)) _ c.loop-candidate.values.items c.push.new.self.items c.in_ok-item.item
    c.in_ok-push.ensures.items c.loop-candidate.invariant c.in_ok-item.ensures)
