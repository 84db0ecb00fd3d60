use Rattle.std.proofs.Common.{map}
use Rattle.std.specs.List.{AllZip}
use Rattle.filterset_sources.specs.Suites.{IsCounted}
use Rattle.filterset_sources.proofs.list.suites.count_all_tests.Given as goal

-- a suite for each so far
abbrev pub invariant-loop-listed : goal.invariant-loop-listed
invariant-loop-listed l = AllZip (λ listed. IsCounted l.run_ignored
    (listed.suite, map (λ test. (test.name, test.is_ignored)) listed.tests.items)) l.yielded l.suites.items
