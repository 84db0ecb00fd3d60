use Rattle.std.proofs.{Common.arith, Common.map, lemmas.Grind.common_steps, lemmas.List.map-append}
use Rattle.filterset_offers.specs.Candidates.{row_of}
use Rattle.filterset_offers.proofs.names.known_candidates.Goals as goal

pub returns : goal.returns
returns c = rw c.in-Some.is (
  map row_of c.in_ok-made.made.items,
  map row_of c.in_ok-binaries.binaries.items,
  map row_of c.in_ok-ids.ids.items,
  map row_of c.in_ok-tests.tests.items,
  c.in_ok-made.ensures,
  c.in_ok-binaries.ensures,
  c.in_ok-ids.ensures,
  c.in_ok-tests.ensures,
  grind (arith, common_steps, map-append),
)
