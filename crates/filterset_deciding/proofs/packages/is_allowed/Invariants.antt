use Rattle.std.proofs.Common.{◌≡◌, take, true}
use Rattle.filterset_deciding.specs.{AnyTest.AnyTest, Aspects.AgreesOn, Aspects.is_of_package}
use Rattle.filterset_deciding.proofs.packages.is_allowed.Given as goal

abbrev pub invariant-loop-placed : goal.invariant-loop-placed
invariant-loop-placed l =
    (test : AnyTest) → test.query.binary_query.package_id.now ≡ l.id → AgreesOn (λ leaf. is_of_package leaf ≡ true) test (take l.placed-index l.branch)
