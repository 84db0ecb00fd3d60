-- Formulas as lists of steps in postfix order.
use Rattle.std.specs.Prelude.{List, [], ◌∷◌, ◌++◌, map}
use Rattle.filterset_expression.specs.Connectives.{Connective, Conjunction, Disjunction, ExclusiveDisjunction}
use Rattle.filterset_expression.specs.Expression.{CompiledLeaf, compiled_leaf}
use Rattle.filterset_expression.specs.Formula.{Formula, Leaf, Negation, Compound}
use Rattle.filterset_expression.specs.declared.flat.steps.FlatStep.{FlatStep}
use Rattle.filterset_expression.specs.declared.flat.steps.FlatStep.TheVariants as step

pub data Step (A : Type 0) : Type 0 where
  Push : A → Step A
  Negate : Step A
  Combine : Connective → Step A

-- the formula's steps, with the steps `at` in the place of each leaf
abbrev pub steps_by : {A B : Type 0} → (A → List (Step B)) → Formula A → List (Step B)
steps_by at (Leaf leaf) = at leaf
steps_by at (Negation f) = steps_by at f ++ Negate ∷ []
steps_by at (Compound connective f g) = steps_by at f ++ (steps_by at g ++ Combine connective ∷ [])

abbrev pub push_leaf : {A : Type 0} → A → List (Step A)
push_leaf leaf = Push leaf ∷ []

-- the formula's leaves and operators: the left operand, the right operand, the operator
abbrev pub postfix : {A : Type 0} → Formula A → List (Step A)
postfix f = steps_by push_leaf f

-- the step of a flat expression, without its reference
abbrev pub step_of : FlatStep → Step CompiledLeaf
step_of (step.Leaf leaf) = Push (compiled_leaf leaf.now)
step_of step.Not = Negate
step_of step.And = Combine Conjunction
step_of step.Or = Combine Disjunction
step_of step.Xor = Combine ExclusiveDisjunction

abbrev pub steps_of : List FlatStep → List (Step CompiledLeaf)
steps_of steps = map step_of steps
