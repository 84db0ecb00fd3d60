-- Answers as bits of words, 64 a word.
use Rattle.std.specs.Prelude.{ℕ, ◌/◌, ◌%◌, ◌==◌, Bool, List, slice_index}
use Rattle.std.specs.Int.{bit_at}

-- the bit at this position; past the last word it is zero
abbrev pub bit_of : List ℕ → ℕ → Bool
bit_of words position = bit_at (slice_index words (position / 64)) (position % 64) == 1
