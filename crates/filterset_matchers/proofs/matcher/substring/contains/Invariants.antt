use Rattle.std.proofs.Common.{◌≡◌, ◌<◌, ◌+◌, ◌-◌, ℕ, length}
use Rattle.filterset_matchers.specs.Substring.{StandsAt}
use Rattle.filterset_matchers.proofs.matcher.substring.contains.Given as goal

abbrev pub decreases-loop-from : goal.decreases-loop-from
decreases-loop-from l = l.positions - l.from

-- the needle stands at no position so far
abbrev pub invariant-loop-from : goal.invariant-loop-from
invariant-loop-from l = record {
  some : 0 < length l.needle-2;
  counted : l.positions + length l.needle-2 ≡ length l.text-2 + 1;
  before : (k : ℕ) → k < l.from → StandsAt l.text-2 l.needle-2 k → ⊥;
}
