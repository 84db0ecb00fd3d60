use Rattle.std.proofs.Common.{take}
use Rattle.filterset_cli.specs.Index.{IsIndexOf}
use Rattle.filterset_cli.proofs.lookup.tests_by_name.Given as goal

-- the index has the tests so far
abbrev pub invariant-loop-test : goal.invariant-loop-test
invariant-loop-test l = IsIndexOf (λ t. t.name) (λ t. t.now) (take l.test-index l.tests) l.index
