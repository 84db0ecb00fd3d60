use Rattle.std.proofs.Common.{◌≤◌, length}
use Rattle.filterset_deciding.proofs.Rules.{PassedOrLeft}
use Rattle.filterset_deciding.proofs.packages.longest_of.Given as goal

abbrev pub invariant-loop-id : goal.invariant-loop-id
invariant-loop-id l = PassedOrLeft (λ x. length x ≤ l.longest) l.ids.keys l.id-iterator
