-- Folds of formulas by connectives and values of the leaves.
use Rattle.std.specs.Prelude.{◌≡◌, ◌↔◌, ◌⊎◌, Bool, Option, None, IsSomeAnd, IsTrue, MatchBool}
use Rattle.filterset_expression.specs.Connectives.{Connective}
use Rattle.filterset_expression.specs.Formula.{Formula, Leaf, Negation, Compound}

-- The value is a fold of the formula by `not_of` and `connect` over values of the leaves that `gives` allows. If the value
-- of a left operand decides a connective, the right operand may have any value.
abbrev pub Folds : {A L : Type 0} → (L → L) → (Connective → L → L → L) → (Connective → L → Type 0) → (A → L → Type 0)
    → Formula A → L → Type 0
Folds not_of connect decides gives (Leaf leaf) value = gives leaf value
Folds {A} {L} not_of connect decides gives (Negation f) value =
    (x : L) × Folds not_of connect decides gives f x × (value ≡ not_of x)
Folds {A} {L} not_of connect decides gives (Compound connective f g) value =
    (x : L) × Folds not_of connect decides gives f x
    × (((y : L) × Folds not_of connect decides gives g y × (value ≡ connect connective x y))
    ⊎ (decides connective x × (value ≡ x)))

-- What the value of a leaf may be: unknown where the leaf is asked, and else whether it holds. (`MatchBool b P Q` is P
-- where b is true, and Q where it is false.)
abbrev pub Settles : {A : Type 0} → (A → Bool) → (A → Type 0) → A → Option Bool → Type 0
Settles is_asked holds leaf value =
    MatchBool (is_asked leaf) (value ≡ None) (IsSomeAnd value (λ b. IsTrue b ↔ holds leaf))
