use Rattle.std.proofs.Common.{◌≡◌, map, take}
use Rattle.std.specs.List.{flat_map}
use Rattle.filterset_verdicts.specs.ListedTests.{listed_test, suite_tests}
use Rattle.filterset_verdicts.proofs.listed.listed_tests.Given as goal

-- the tests of the suites so far
abbrev pub invariant-loop-suite : goal.invariant-loop-suite
invariant-loop-suite l = map listed_test l.tests.items ≡ flat_map suite_tests (take l.suite-index l.suites)
