-- Operators without their first operands.
use Rattle.std.proofs.Common.{◌≡◌, ◌<◌, ◌≤◌, ◌++◌, ◌∙◌, List, [], ◌∷◌, Bor, length, length-append, refl, sym, ap, arith}
use Rattle.filterset_expression.specs.Expression.{CompiledLeaf, formula}
use Rattle.filterset_expression.specs.Formula.{Formula, Leaf, Compound, leaves}
use Rattle.filterset_expression.specs.declared.{expression.CompiledExpr.CompiledExpr, logic.Connective.Connective}
use Rattle.filterset_expression.specs.Formula as formulas
use Rattle.filterset_record.specs.Operators.{applied}
use Rattle.filterset_record.specs.declared.operators.Operator.{Operator, TheVariants.Negation, TheVariants.Binary}

-- the last operator is the innermost
pub applied_last : (ops : List Operator) (op : Operator) (f : Formula CompiledLeaf) → applied (ops ++ op ∷ []) f ≡ applied ops (applied (op ∷ []) f)
applied_last [] op f = refl
applied_last (Negation ∷ rest) op f = ap formulas.Negation (applied_last rest op f)
applied_last (Binary c right ∷ rest) op f = ap (λ (g : Formula CompiledLeaf). Compound c g (formula right.now)) (applied_last rest op f)

-- the last operator is applied
pub popped : (old new : List Operator) (op last : Operator) (f whole : Formula CompiledLeaf) → old ≡ new ++ last ∷ [] → last ≡ op
    → applied old f ≡ whole → applied new (applied (op ∷ []) f) ≡ whole
popped old new op last f whole is same before = sym (applied_last new op f) ∙ rw (← same, ← is) before

-- without operators it is the whole
pub none_left : (ops : List Operator) (f whole : Formula CompiledLeaf) → length ops ≡ 0 → applied ops f ≡ whole → f ≡ whole
none_left [] f whole none is = is
none_left (op ∷ rest) f whole none is = absurd (omega (arith, none))

-- a formula has a leaf
some_leaf : {A : Type 0} (f : Formula A) → 0 < length (leaves f)
some_leaf (Leaf leaf) = omega arith
some_leaf (formulas.Negation f) = some_leaf f
some_leaf (Compound c f g) = omega (arith, some_leaf f, length-append (leaves f) (leaves g))

-- operators take no leaf away
not_fewer : (ops : List Operator) (f : Formula CompiledLeaf) → length (leaves f) ≤ length (leaves (applied ops f))
not_fewer [] f = omega arith
not_fewer (Negation ∷ rest) f = not_fewer rest f
not_fewer (Binary c right ∷ rest) f = omega (arith, not_fewer rest f, length-append (leaves (applied rest f)) (leaves (formula right.now)))

-- the right operand of the last operator has fewer leaves than the whole
pub right_below : (ops : List Operator) (c : Connective) (right : Bor CompiledExpr) (f whole : Formula CompiledLeaf)
    → applied ops (Compound c f (formula right.now)) ≡ whole → length (leaves (formula right.now)) < length (leaves whole)
right_below ops c right f whole is =
    let least = not_fewer ops (Compound c f (formula right.now)) in
    omega (arith, rw is at least, some_leaf f, length-append (leaves f) (leaves (formula right.now)))
