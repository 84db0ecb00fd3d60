-- The operands of formulas.
use Rattle.filterset_expression.specs.Formula.{Formula, Negation, Compound}

-- what a negation negates; of any other formula itself
abbrev pub negated_by : {A : Type 0} → Formula A → Formula A
negated_by (Negation f) = f
negated_by f = f

-- the operands of a compound formula; of any other itself
abbrev pub left_of : {A : Type 0} → Formula A → Formula A
left_of (Compound connective f g) = f
left_of f = f

abbrev pub right_of : {A : Type 0} → Formula A → Formula A
right_of (Compound connective f g) = g
right_of f = f
