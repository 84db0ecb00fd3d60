use Rattle.std.proofs.Common.{◌≡◌, ℕ, ◌<◌, ◌≤◌, ◌==◌, not, slice_index}
use Rattle.std.specs.Int.{bit_at}
use Rattle.filterset_record.proofs.bits.Bits.negate.Given as goal

abbrev pub invariant-loop-word : goal.invariant-loop-word
invariant-loop-word l = record {
  done : (k : ℕ) → k < l.word-index → (i : ℕ) → i < 64 → (bit_at (slice_index l.word-items k) i == 1) ≡ not (bit_at (slice_index l.initial.word-items k) i == 1);
  left : (k : ℕ) → l.word-index ≤ k → slice_index l.word-items k ≡ slice_index l.initial.word-items k;
}
