-- Answers for a list of tests.
use Rattle.std.specs.Prelude.{◌≡◌, ◌+◌, ◌/◌, ℕ, Bool, vec_len}
use Rattle.filterset_record.specs.Bits.{bit_of}
use Rattle.filterset_record.specs.declared.column.Answers.{Answers, TheVariants.Same, TheVariants.Each}

-- the answer at a position: the same at all of them, or a bit of a word
abbrev pub answer_at : Answers → ℕ → Bool
answer_at (Same answer) position = answer
answer_at (Each bits) position = bit_of bits.words.items position

-- how many words the answers have; the same answer at so many positions counts as enough
abbrev pub words_of : ℕ → Answers → ℕ
words_of len (Same answer) = len / 64 + 1
words_of len (Each bits) = vec_len bits.words

-- the answers have a word for each 64 positions, and one more
abbrev pub HasRoom : ℕ → Answers → Type 0
HasRoom len answers = words_of len answers ≡ len / 64 + 1
