use Rattle.std.proofs.Common.{◌≡◌, ℕ, ◌<◌, ◌≤◌, ◌==◌, slice_index}
use Rattle.std.specs.Int.{bit_at}
use Rattle.filterset_expression.specs.Connectives.{connected}
use Rattle.filterset_record.proofs.bits.Bits.combine.Given as goal

abbrev pub invariant-loop-place : goal.invariant-loop-place
invariant-loop-place l = record {
  done : (k : ℕ) → k < l.place → (i : ℕ) → (bit_at (slice_index l.word-items k) i == 1) ≡ connected l.connective (bit_at (slice_index l.initial.word-items k) i == 1) (bit_at (slice_index l.other.words.items k) i == 1);
  left : (k : ℕ) → l.place ≤ k → slice_index l.word-items k ≡ slice_index l.initial.word-items k;
}
