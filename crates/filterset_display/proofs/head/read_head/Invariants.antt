use Rattle.std.proofs.Common.{◌≡◌, ℕ, ◌-◌, ◌<◌, ◌≤◌, length}
use Rattle.filterset_display.specs.Heads.{head_of, head_from, IsBounded}
use Rattle.filterset_display.proofs.head.read_head.Given as goal

abbrev pub invariant-lines : goal.invariant-lines
invariant-lines l = record {
  within : length l.rest ≤ length l.bytes;
  bounded : IsBounded l.found;
  read : (n : ℕ) × (length l.rest < n) × (head_of l.bytes ≡ head_from n (length l.bytes - length l.rest) l.found l.rest);
}

abbrev pub decreases-lines : goal.decreases-lines
decreases-lines l = length l.rest
