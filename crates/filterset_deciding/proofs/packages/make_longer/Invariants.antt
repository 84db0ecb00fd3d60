use Rattle.std.proofs.Common.{◌≡◌, length, string_bytes}
use Rattle.filterset_deciding.proofs.packages.make_longer.Given as goal

abbrev pub invariant-loop-at : goal.invariant-loop-at
invariant-loop-at l = length (string_bytes l.repr) ≡ l.at
