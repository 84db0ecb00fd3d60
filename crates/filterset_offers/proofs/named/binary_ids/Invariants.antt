use Rattle.std.proofs.Common.{◌≡◌, map, take}
use Rattle.filterset_offers.proofs.named.binary_ids.Given as goal

-- those of the test binaries so far
abbrev pub invariant-loop-suite : goal.invariant-loop-suite
invariant-loop-suite l = map (λ n. n.now) l.names.items ≡ map (λ s. s.binary_id) (take l.suite-index l.suites)
