use Rattle.std.proofs.Common.{◌≡◌, map, string_bytes, take}
use Rattle.filterset_offers.proofs.named.binary_names.Given as goal

-- those of the test binaries so far
abbrev pub invariant-loop-suite : goal.invariant-loop-suite
invariant-loop-suite l = map (λ n. n.now) l.names.items ≡ map (λ s. string_bytes s.binary_name) (take l.suite-index l.suites)
