-- The answers to questions.
use Rattle.std.specs.Prelude.{ℕ, ◌==◌, ◌||◌, Bool, not, nat_le}
use Rattle.filterset_deciding.specs.declared.question.Question.{Question}
use Rattle.filterset_deciding.specs.declared.question.Question.TheVariants.{AllAlike, AtLeastOne, AtMostOne, ExactlyOne}

-- the answer if so many filtersets of all pick the test
abbrev pub is_met : Question → ℕ → ℕ → Bool
is_met AllAlike count total = (count == 0) || (count == total)
is_met AtLeastOne count total = not (count == 0)
is_met AtMostOne count total = nat_le count 1
is_met ExactlyOne count total = count == 1
