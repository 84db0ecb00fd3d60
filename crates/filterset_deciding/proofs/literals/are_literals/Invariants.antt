use Rattle.std.proofs.Common.{◌≡◌, drop}
use Rattle.filterset_deciding.specs.Globs.{are_literals}
use Rattle.filterset_deciding.proofs.literals.are_literals.Given as goal

abbrev pub invariant-loop-token : goal.invariant-loop-token
invariant-loop-token l = are_literals (drop l.token-index l.tokens) ≡ are_literals l.tokens
