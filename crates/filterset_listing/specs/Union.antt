-- The union of filtersets.
use Rattle.std.specs.{Prelude.◌≡◌, Prelude.◌⊎◌, Prelude.List, Prelude.[], Prelude.◌∷◌, List.Any}
use Rattle.filterset_expression.specs.declared.logic.Connective.TheVariants.{Disjunction}
use Rattle.filterset_expression.specs.Expression.{CompiledLeaf, formula}
use Rattle.filterset_expression.specs.Formula.{Compound, Formula, Leaf}
use Rattle.filterset_expression.specs.declared.expression.CompiledExpr.{CompiledExpr}
use Rattle.filterset_expression.specs.Expression as compiled

-- one of the filtersets does so, or there is none
abbrev pub AnyDoes : {A : Type 0} → (A → Type 0) → List A → Type 0
AnyDoes Does filters = (filters ≡ []) ⊎ Any Does filters

-- the formula or one of the expressions
abbrev pub or_one_of : Formula CompiledLeaf → List CompiledExpr → Formula CompiledLeaf
or_one_of f [] = f
or_one_of f (expr ∷ exprs) = or_one_of (Compound Disjunction f (formula expr)) exprs

-- one of the expressions, or all tests if there is none
abbrev pub union_formula : List CompiledExpr → Formula CompiledLeaf
union_formula [] = Leaf compiled.All
union_formula (expr ∷ exprs) = or_one_of (formula expr) exprs
