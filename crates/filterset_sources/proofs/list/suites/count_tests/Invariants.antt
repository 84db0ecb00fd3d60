use Rattle.std.proofs.Common.{◌≡◌, map}
use Rattle.std.specs.Prelude.{not}
use Rattle.filterset_sources.specs.Suites.{counts, names_if}
use Rattle.filterset_sources.proofs.list.suites.count_tests.Given as goal

-- the tests so far
abbrev pub invariant-loop-test : goal.invariant-loop-test
invariant-loop-test l = let tests = map (λ test. (test.name, test.is_ignored)) l.yielded in
    (l.counted.items ≡ names_if (counts l.run_ignored) tests)
    × (l.uncounted.items ≡ names_if (λ is_ignored. not (counts l.run_ignored is_ignored)) tests)
