-- Letters: of the characters that the same parts admit, a search needs only one.
use Rattle.std.specs.Prelude.{◌+◌, ℕ, List, [], ◌∷◌, Option, Some}
use Rattle.std.specs.{Char.InScalarRange, List.All, List.Any, List.flat_map}
use Rattle.filterset_texts.specs.{declared.letters.Letter.Letter, declared.part.Part.Part, Places.IsAdmittedAt}
use Rattle.filterset_texts.specs.declared.part.Part.TheVariants as part

-- where the ranges begin, and where what is after them begins
abbrev pub cuts_of_ranges : List (ℕ × ℕ) → List ℕ
cuts_of_ranges ranges = flat_map (λ range. range.0 ∷ (range.1 + 1) ∷ []) ranges

abbrev pub cuts_of_place : Option Part → List ℕ
cuts_of_place (Some (part.One negated ranges)) = cuts_of_ranges ranges.items
cuts_of_place _ = []

-- where the characters begin, also after the gap of the surrogates, and where ranges begin and end
abbrev pub cuts_of : List (Option Part) → List ℕ
cuts_of row = 0 ∷ 0xE000 ∷ flat_map cuts_of_place row

-- some letter is admitted at the same places as the character
abbrev pub HasLetterLike : List (Option Part) → List Letter → ℕ → Type 0
HasLetterLike row letters c = Any (λ letter. IsAdmittedAt row c letter.marks.items) letters

-- each letter has its own marks, and each character is like one of them
pub record AreLetters (row : List (Option Part)) (letters : List Letter) : Type 0 where
  pub each : All (λ letter. IsAdmittedAt row letter.character letter.marks.items) letters
  pub all : (c : ℕ) → InScalarRange c → HasLetterLike row letters c

-- no letter is lost, and each still has its own marks
pub record KeepsLetters (row : List (Option Part)) (old new : List Letter) : Type 0 where
  pub each : All (λ letter. IsAdmittedAt row letter.character letter.marks.items) old
      → All (λ letter. IsAdmittedAt row letter.character letter.marks.items) new
  pub all : (c : ℕ) → HasLetterLike row old c → HasLetterLike row new c
