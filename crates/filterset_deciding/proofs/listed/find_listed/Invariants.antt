use Rattle.std.proofs.Common.{take}
use Rattle.std.specs.Prelude.{All}
use Rattle.filterset_deciding.specs.Listed.{IsMetAsked}
use Rattle.filterset_deciding.proofs.listed.find_listed.Given as goal

-- the answer is yes for the tests so far
abbrev pub invariant-loop-test : goal.invariant-loop-test
invariant-loop-test l = All (λ query. All (λ g. IsMetAsked l.laid query g.now) l.asked) (take l.test-index l.tests)
