-- The values that a formula can take if some of its leaves may have either value.
use Rattle.std.specs.Prelude.{◌≡◌, ◌↔◌, ◌+◌, ℕ, Bool, true, false, List, [], ◌∷◌, length, take, drop, cond, IsTrue, MatchBool}
use Rattle.filterset_expression.specs.Connectives.{Connects}
use Rattle.filterset_expression.specs.Formula.{Formula, Leaf, Negation, Compound}

-- how many of the leaves are asked; two equal leaves are two
abbrev pub occurrences : {A : Type 0} → (A → Bool) → Formula A → ℕ
occurrences is_asked (Leaf leaf) = cond (is_asked leaf) 1 0
occurrences is_asked (Negation f) = occurrences is_asked f
occurrences is_asked (Compound connective f g) = occurrences is_asked f + occurrences is_asked g

-- the first answer, and false where there is none
abbrev pub first_answer : List Bool → Bool
first_answer [] = false
first_answer (answer ∷ rest) = answer

-- The formula is true where the leaves that are asked, from left to right, get the answers, one each, and every other
-- leaf is as `holds` says. (`MatchBool b P Q` is P where b is true, and Q where it is false.) Of a compound formula the
-- first answers are those to its left operand, as many as it has leaves that are asked, and the others are those to its
-- right one.
abbrev pub TrueUnder : {A : Type 0} → (A → Bool) → (A → Type 0) → Formula A → List Bool → Type 0
TrueUnder is_asked holds (Leaf leaf) answers =
    MatchBool (is_asked leaf) (IsTrue (first_answer answers)) (holds leaf)
TrueUnder is_asked holds (Negation f) answers = ¬ TrueUnder is_asked holds f answers
TrueUnder is_asked holds (Compound connective f g) answers =
    Connects connective
    (TrueUnder is_asked holds f (take (occurrences is_asked f) answers))
    (TrueUnder is_asked holds g (drop (occurrences is_asked f) answers))

-- the formula takes this value under some list of answers, one for each leaf that is asked
abbrev pub CanBe : {A : Type 0} → (A → Bool) → (A → Type 0) → Formula A → Bool → Type 0
CanBe is_asked holds f value =
    (answers : List Bool) × (length answers ≡ occurrences is_asked f)
    × (IsTrue value ↔ TrueUnder is_asked holds f answers)

-- it takes this value and no other
abbrev pub IsAlways : {A : Type 0} → (A → Bool) → (A → Type 0) → Formula A → Bool → Type 0
IsAlways is_asked holds f value = (other : Bool) → CanBe is_asked holds f other ↔ (other ≡ value)

-- it takes both values
abbrev pub IsOpen : {A : Type 0} → (A → Bool) → (A → Type 0) → Formula A → Type 0
IsOpen is_asked holds f = CanBe is_asked holds f true × CanBe is_asked holds f false
