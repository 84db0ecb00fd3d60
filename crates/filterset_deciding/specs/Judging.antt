-- What the values of filtersets, some of which are unknown, say about a question.
use Rattle.std.specs.Prelude.{◌≡◌, ◌||◌, Bool, true, false, not, List, [], ◌∷◌, Option, Some, None, length}
use Rattle.std.specs.List.{AllZip, count_by}
use Rattle.filterset_deciding.specs.{Question.is_met, declared.question.Question.Question}

abbrev pub is_yes : Option Bool → Bool
is_yes (Some true) = true
is_yes (Some false) = false
is_yes None = false

abbrev pub is_maybe : Option Bool → Bool
is_maybe (Some true) = true
is_maybe (Some false) = false
is_maybe None = true

-- the answer is the value, if that is known
abbrev pub FitsOne : Bool → Option Bool → Type 0
FitsOne answer None = Unit {0}
FitsOne answer (Some value) = answer ≡ value

abbrev pub Fits : List Bool → List (Option Bool) → Type 0
Fits answers values = AllZip FitsOne answers values

-- whether the answer is yes, or the first filterset, which is the given one, does not pick the test
abbrev pub met : Question → List Bool → Bool
met question [] = true
met question (given ∷ answers) = not given || is_met question (count_by (λ x. x) answers) (length answers)

-- the given filterset picks the test, and the answer is no, whatever the unknown values are
abbrev pub IsUnmetFor : Question → List (Option Bool) → Type 0
IsUnmetFor question [] = ⊥
IsUnmetFor question (given ∷ values) = (given ≡ Some true)
    × ((answers : List Bool) → Fits answers values → is_met question (count_by (λ x. x) answers) (length answers) ≡ false)
