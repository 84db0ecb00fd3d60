use Rattle.std.proofs.Common.{map, take}
use Rattle.std.specs.List.{AllZip}
use Rattle.serde_json.specs.View.{view}
use Rattle.filterset_entries.specs.Placements.{spot_of}
use Rattle.filterset_offers.specs.{Candidates.row_of, Completion.IsItem, Standing.gap_rows}
use Rattle.filterset_offers.proofs.items.items_of.Given as goal

abbrev pub invariant-loop-candidate : goal.invariant-loop-candidate
invariant-loop-candidate l =
    AllZip (IsItem l.shown.encoding l.shown.lines.text.now (spot_of l.place.spot) (gap_rows l.gaps)) (map row_of (take l.candidate-index l.candidates))
    (map view l.values.items)
