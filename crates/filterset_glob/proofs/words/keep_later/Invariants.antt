use Rattle.std.proofs.Common.{◌≡◌, ℕ, ◌+◌, ◌*◌, ◌≤◌, ◌<◌, length, get_or, slice_index}
use Rattle.filterset_glob.specs.{Words.Has, Matching.Admits, Tokens.token_of}
use Rattle.filterset_glob.proofs.words.keep_later.Given as goal

abbrev pub invariant-loop-at : goal.invariant-loop-at
invariant-loop-at l = record {
  long : length l.words ≡ length l.initial.words;
  kept : (i : ℕ) → i < 64 * l.at → 64 + i < length l.text → Has l.words i → Has l.initial.words i × Admits (token_of l.token) (slice_index l.text (64 + i));
  keeps : (i : ℕ) → i < 64 * l.at → 64 + i < length l.text → Has l.initial.words i → Admits (token_of l.token) (slice_index l.text (64 + i)) → Has l.words i;
  same : (k : ℕ) → l.at ≤ k → get_or l.words k 0 ≡ get_or l.initial.words k 0;
}
