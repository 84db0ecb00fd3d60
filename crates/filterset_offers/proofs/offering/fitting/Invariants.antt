use Rattle.std.proofs.Common.{map, take}
use Rattle.filterset_offers.specs.{Candidates.row_of, Standing.AreFitting, Standing.gap_rows}
use Rattle.filterset_offers.proofs.offering.fitting.Given as goal

abbrev pub invariant-loop-candidate : goal.invariant-loop-candidate
invariant-loop-candidate l =
    AreFitting l.kind (gap_rows l.gaps) l.is_closed (map row_of (take l.candidate-index l.candidates)) (map row_of l.found.items)
