use Rattle.std.proofs.Common.{◌≡◌, take, true}
use Rattle.filterset_deciding.specs.{AnyTest.AnyTest, Aspects.AgreesOn, Aspects.is_constant}
use Rattle.filterset_deciding.proofs.aspects.are_constants_right.Given as goal

abbrev pub invariant-loop-placed : goal.invariant-loop-placed
invariant-loop-placed l = (test : AnyTest) → AgreesOn (λ leaf. is_constant leaf ≡ true) test (take l.placed-index l.branch)
