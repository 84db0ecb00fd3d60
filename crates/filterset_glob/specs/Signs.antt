-- Names for characters: `sign "["` is the number of `[`. All are ASCII, so the number is also the byte.
use Rattle.std.specs.Prelude.{ℕ, List, [], ◌∷◌, Bool, false, ◌==◌, ◌||◌, codes}
use Prim.Native.String.{String}

-- the first of these, or 0 where there is none
abbrev pub first_of : List ℕ → ℕ
first_of [] = 0
first_of (c ∷ cs) = c

-- the code of the one character of a text
abbrev pub sign : String → ℕ
sign s = first_of (codes s)

-- the character is one of these
abbrev pub is_among : ℕ → List ℕ → Bool
is_among c [] = false
is_among c (d ∷ []) = c == d
is_among c (d ∷ e ∷ rest) = (c == d) || is_among c (e ∷ rest)

-- the character is one of the signs of a text
infix 60 ◌∈◌
abbrev pub ◌∈◌ : ℕ → String → Bool
c ∈ s = is_among c (codes s)
