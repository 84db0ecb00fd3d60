use Rattle.std.proofs.Common.{take}
use Rattle.std.specs.List.{AllZip}
use Rattle.filterset_c.specs.{Answers.IsTestNumber, Queries.IsAbout, declared.queries.Binary.Binary}
use Rattle.filterset_c.proofs.matching.numbers_by_steps.Given as goal

-- the tests so far have their numbers
abbrev pub invariant-loop-test : goal.invariant-loop-test
invariant-loop-test l =
    (binary : Binary) → IsAbout binary l.binary_query → AllZip (IsTestNumber l.bound binary) (take l.test-index l.tests) l.numbers.items
