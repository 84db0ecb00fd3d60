use Rattle.std.proofs.Common.{◌≡◌, take, true}
use Rattle.filterset_deciding.specs.{AnyTest.AnyTest, Aspects.AgreesOn, Aspects.is_of_platform}
use Rattle.filterset_deciding.proofs.aspects.is_platform_allowed.Given as goal

abbrev pub invariant-loop-placed : goal.invariant-loop-placed
invariant-loop-placed l =
    (test : AnyTest) → test.query.binary_query.platform ≡ l.platform → AgreesOn (λ leaf. is_of_platform leaf ≡ true) test (take l.placed-index l.branch)
