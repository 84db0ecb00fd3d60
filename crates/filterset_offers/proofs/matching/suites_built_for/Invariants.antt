use Rattle.std.proofs.Common.{map, take}
use Rattle.filterset_offers.specs.{Matched.IsBuiltFor, Matched.binary_id, Sieves.SelectsAs}
use Rattle.filterset_offers.proofs.matching.suites_built_for.Given as goal

-- the test binaries so far that are built for the platform
abbrev pub invariant-loop-suite : goal.invariant-loop-suite
invariant-loop-suite l = SelectsAs (IsBuiltFor l.platform) binary_id (take l.suite-index l.suites) (map (λ n. n.now) l.found.items)
