use Rattle.std.proofs.Common.{◌≡◌, ◌++◌, map, take}
use Rattle.std.specs.List.{flat_map}
use Rattle.filterset_offers.proofs.named.test_names.Given as goal

-- the names of the tests of the test binaries so far
abbrev pub invariant-loop-suite : goal.invariant-loop-suite
invariant-loop-suite l = map (λ n. n.now) l.names.items ≡ flat_map (λ s. s.tests.items) (take l.suite-index l.suites)

-- and of the tests so far
abbrev pub invariant-loop-test : goal.invariant-loop-test
invariant-loop-test l = map (λ n. n.now) l.names.items ≡ map (λ n. n.now) l.initial.names.items ++ take l.test-index l.test-items
