-- Stacks of truth values in words.
use Rattle.std.specs.Prelude.{ℕ, zero, suc, ◌/◌, ◌%◌, ◌==◌, Bool, Option, Some, None, cond, List, [], ◌∷◌}

-- whether a number's lowest bit is one
abbrev pub is_odd : ℕ → Bool
is_odd n = (n % 2) == 1

-- The values in two words, `height` of them, the top first: a value is a bit of each word
-- at the same position, and the top is at the lowest.
abbrev pub values_of : {L : Type 0} → (Bool → Bool → L) → ℕ → ℕ → ℕ → List L
values_of of_bits zero first second = []
values_of of_bits (suc height) first second =
    of_bits (is_odd first) (is_odd second) ∷ values_of of_bits height (first / 2) (second / 2)

-- the value of two is its first bit
abbrev pub truth_of : Bool → Bool → Bool
truth_of truth unused = truth

-- the value of three is its first bit, where the second says that it is known
abbrev pub known_truth_of : Bool → Bool → Option Bool
known_truth_of truth known = cond known (Some truth) None
