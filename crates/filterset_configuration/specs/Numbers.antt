-- A file in which some of its strings are replaced by their numbers.
use Rattle.std.specs.Prelude.{◌≤◌, ◌++◌, ◌-◌, ℕ, suc, List, [], ◌∷◌, codes, decimal, take, drop}
use Rattle.filterset_json.specs.Shape.{Text}
use Rattle.filterset_configuration.specs.declared.stretch.Stretch.{Stretch}

-- The rest of a file from the offset `at` on, with its number in place of each of these stretches, of which the first has this
-- number.
abbrev pub numbered_from : ℕ → ℕ → Text → List Stretch → Text
numbered_from at number rest [] = rest
numbered_from at number rest (s ∷ ss) =
    take (s.from - at) rest
    ++ (codes "'" ++ (decimal number ++ (codes "'"
    ++ numbered_from s.to (suc number) (drop (s.to - s.from) (drop (s.from - at) rest)) ss)))

-- the file with its number in place of each of these stretches
abbrev pub numbered : Text → List Stretch → Text
numbered file stretches = numbered_from 0 0 file stretches

-- the stretches follow each other, from the offset `at` on
abbrev pub AreApart : ℕ → List Stretch → Type 0
AreApart at [] = Unit {0}
AreApart at (s ∷ ss) = (at ≤ s.from) × (s.from ≤ s.to) × AreApart s.to ss
