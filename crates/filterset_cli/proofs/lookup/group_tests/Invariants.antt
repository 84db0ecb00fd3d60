use Rattle.filterset_cli.specs.Index.{HaveGroups}
use Rattle.filterset_cli.proofs.lookup.group_tests.Given as goal

-- the tests so far have their groups
abbrev pub invariant-loop-test : goal.invariant-loop-test
invariant-loop-test l = HaveGroups l.tests l.grouped.items
