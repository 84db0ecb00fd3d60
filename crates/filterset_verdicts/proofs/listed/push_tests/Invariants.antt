use Rattle.std.proofs.Common.{◌≡◌, ◌++◌, map, take}
use Rattle.filterset_verdicts.specs.ListedTests.{listed_test, test_in}
use Rattle.filterset_verdicts.proofs.listed.push_tests.Given as goal

-- the tests so far
abbrev pub invariant-loop-test_name : goal.invariant-loop-test_name
invariant-loop-test_name l =
    map listed_test l.tests.items ≡ map listed_test l.initial.tests.items ++ map (test_in l.suite) (take l.test_name-index l.suite.tests.items)
