use Rattle.std.proofs.Common.{◌≡◌}
use Rattle.filterset_deciding.specs.{AnyTest.AnyTest, Known.Agrees}
use Rattle.filterset_deciding.proofs.Rules.{PassedOrLeft}
use Rattle.filterset_deciding.proofs.packages.find_allowed.Given as goal

abbrev pub invariant-loop-id : goal.invariant-loop-id
invariant-loop-id l =
    PassedOrLeft (λ x. (test : AnyTest) → test.query.binary_query.package_id.now ≡ x → ¬ Agrees test l.branch) l.ids.keys l.id-iterator
