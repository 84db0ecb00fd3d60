-- Operators without their first operands.
use Rattle.std.specs.Prelude.{List, [], ◌∷◌}
use Rattle.filterset_expression.specs.{Expression.CompiledLeaf, Expression.formula, Formula.Formula, Formula.Compound}
use Rattle.filterset_expression.specs.Formula as formulas
use Rattle.filterset_record.specs.declared.operators.Operator.{Operator, TheVariants.Negation, TheVariants.Binary}

-- the formula under these operators, of which the first is the outermost
abbrev pub applied : List Operator → Formula CompiledLeaf → Formula CompiledLeaf
applied [] f = f
applied (Negation ∷ rest) f = formulas.Negation (applied rest f)
applied (Binary connective right ∷ rest) f = Compound connective (applied rest f) (formula right.now)
