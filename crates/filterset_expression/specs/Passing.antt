-- Right operands that are skipped because the left operand decides.
use Rattle.std.specs.Prelude.{◌≡◌, ◌⊎◌, ◌+◌, ◌-◌, ◌&&◌, ℕ, Bool, true, false, List, [], ◌∷◌, ◌++◌, Option, Some, None, length, take, drop}
use Rattle.filterset_expression.specs.Connectives.{Connective, same_connective}
use Rattle.filterset_expression.specs.{FlatSteps.Step, FlatSteps.Combine, FlatSteps.postfix, Formula.Formula}
use Rattle.filterset_expression.specs.{Running.leaves_one, declared.flat.passing.RightOperand.RightOperand}

-- The steps begin with those of a right operand and its connective, as many as are counted.
abbrev pub IsRightOperand : {A : Type 0} → Connective → ℕ → List (Step A) → Type 0
IsRightOperand {A} connective count steps =
    (right : Formula A) × (rest : List (Step A))
    × (steps ≡ postfix right ++ Combine connective ∷ rest) × (count ≡ length (postfix right) + 1)

-- what may be passed over before these steps: nothing, or the right operand that they begin with
abbrev pub IsPassedOver : {A : Type 0} → Option RightOperand → List (Step A) → Type 0
IsPassedOver None steps = Unit {0}
IsPassedOver (Some operand) steps = IsRightOperand operand.connective operand.steps steps

-- what may be passed over after each step; after those that the list doesn't reach, nothing
abbrev pub ArePassedOver : {A : Type 0} → List (Step A) → List (Option RightOperand) → Type 0
ArePassedOver steps [] = Unit {0}
ArePassedOver [] (operand ∷ operands) = ⊥
ArePassedOver (s ∷ steps) (operand ∷ operands) = IsPassedOver operand steps × ArePassedOver steps operands

-- ---- the same as truth values

-- whether the first step is the connective's
abbrev pub begins_with : {A : Type 0} → Connective → List (Step A) → Bool
begins_with connective (Combine other ∷ steps) = same_connective connective other
begins_with connective _ = false

abbrev pub is_right_operand : {A : Type 0} → Connective → ℕ → List (Step A) → Bool
is_right_operand connective count steps =
    leaves_one (take (count - 1) steps) 0 && begins_with connective (drop (count - 1) steps)

abbrev pub is_passed_over : {A : Type 0} → Option RightOperand → List (Step A) → Bool
is_passed_over None steps = true
is_passed_over (Some operand) steps = is_right_operand operand.connective operand.steps steps

abbrev pub are_passed_over : {A : Type 0} → List (Step A) → List (Option RightOperand) → Bool
are_passed_over steps [] = true
are_passed_over [] (operand ∷ operands) = false
are_passed_over (s ∷ steps) (operand ∷ operands) = is_passed_over operand steps && are_passed_over steps operands

-- ---- runs

-- How far a run advances if its last value is the operand to the left of these steps: one step, or past the right
-- operand too where the value decides the connective.
abbrev pub Advances : {A L : Type 0} → (Connective → L → Type 0) → List (Step A) → L → ℕ → Type 0
Advances decides steps value count =
    (count ≡ 1) ⊎ ((connective : Connective) × (passed : ℕ)
    × decides connective value × IsRightOperand connective passed steps × (count ≡ passed + 1))
