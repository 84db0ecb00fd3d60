-- Formulas of propositional logic over leaves of any type, and their truth.
use Rattle.std.specs.Prelude.{◌≡◌, List, [], ◌∷◌, ◌++◌}
use Rattle.filterset_expression.specs.Connectives.{Connective, Connects}

pub data Formula (A : Type 0) : Type 0 where
  Leaf : A → Formula A
  Negation : Formula A → Formula A
  Compound : Connective → Formula A → Formula A → Formula A

-- the leaves, from left to right
abbrev pub leaves : {A : Type 0} → Formula A → List A
leaves (Leaf leaf) = leaf ∷ []
leaves (Negation f) = leaves f
leaves (Compound connective f g) = leaves f ++ leaves g

-- the formula with a formula put in the place of each leaf: that which `at` gives for the leaf
abbrev pub replaced : {A B : Type 0} → (A → Formula B) → Formula A → Formula B
replaced at (Leaf leaf) = at leaf
replaced at (Negation f) = Negation (replaced at f)
replaced at (Compound connective f g) = Compound connective (replaced at f) (replaced at g)

-- the formula is true where each leaf is as `holds` says
abbrev pub TrueWhere : {A : Type 0} → (A → Type 0) → Formula A → Type 0
TrueWhere holds (Leaf leaf) = holds leaf
TrueWhere holds (Negation f) = ¬ TrueWhere holds f
TrueWhere holds (Compound connective f g) = Connects connective (TrueWhere holds f) (TrueWhere holds g)

-- two formulas of one shape, whose leaves are related one by one
abbrev pub SameShape : {A B : Type 0} → (A → B → Type 0) → Formula A → Formula B → Type 0
SameShape R (Leaf a) (Leaf b) = R a b
SameShape R (Negation f) (Negation g) = SameShape R f g
SameShape R (Compound connective f f') (Compound other g g') =
    (connective ≡ other) × SameShape R f g × SameShape R f' g'
SameShape R _ _ = ⊥
