use Rattle.std.specs.Prelude.{Contains}
use Rattle.filterset_deciding.proofs.Rules.{PassedOrLeft}
use Rattle.filterset_deciding.proofs.inferring.is_within.Given as goal

abbrev pub invariant-loop-id : goal.invariant-loop-id
invariant-loop-id l = PassedOrLeft (λ x. Contains l.others.keys x) l.ids.keys l.id-iterator
