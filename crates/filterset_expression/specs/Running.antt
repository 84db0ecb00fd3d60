-- How steps run on a stack.
use Rattle.std.specs.Prelude.{ℕ, zero, suc, max, Bool, true, false, ◌&&◌, List, [], ◌∷◌}
use Rattle.filterset_expression.specs.Expression.{CompiledLeaf, Default, compiled_leaf}
use Rattle.filterset_expression.specs.FlatSteps.{Step, Push, Negate, Combine}
use Rattle.filterset_expression.specs.declared.flat.steps.Action.{Action}
use Rattle.filterset_expression.specs.declared.flat.steps.Action.TheVariants as action

-- the step that does what an action of the code does
abbrev pub step_of_action : Action → Step CompiledLeaf
step_of_action (action.Push leaf) = Push (compiled_leaf leaf.now)
step_of_action action.Negate = Negate
step_of_action (action.Combine connective) = Combine connective

-- a leaf's step, or these steps in the place of a `default` leaf
abbrev pub leaf_or : List (Step CompiledLeaf) → CompiledLeaf → List (Step CompiledLeaf)
leaf_or default_steps Default = default_steps
leaf_or default_steps leaf = Push leaf ∷ []

abbrev pub one_less : ℕ → ℕ
one_less zero = zero
one_less (suc height) = height

-- how many values stand on the stack after a step
abbrev pub height_after : {A : Type 0} → Step A → ℕ → ℕ
height_after (Push leaf) height = suc height
height_after Negate height = height
height_after (Combine connective) height = one_less height

-- whether the step finds its operands
abbrev pub finds_operands : {A : Type 0} → Step A → ℕ → Bool
finds_operands (Push leaf) height = true
finds_operands Negate zero = false
finds_operands Negate (suc height) = true
finds_operands (Combine connective) zero = false
finds_operands (Combine connective) (suc zero) = false
finds_operands (Combine connective) (suc (suc height)) = true

-- whether each step finds its operands, and one value is left
abbrev pub leaves_one : {A : Type 0} → List (Step A) → ℕ → Bool
leaves_one [] zero = false
leaves_one [] (suc zero) = true
leaves_one [] (suc (suc height)) = false
leaves_one (s ∷ steps) height = finds_operands s height && leaves_one steps (height_after s height)

-- the greatest height of the stack
abbrev pub greatest_height : {A : Type 0} → List (Step A) → ℕ → ℕ
greatest_height [] height = height
greatest_height (s ∷ steps) height = max height (greatest_height steps (height_after s height))
