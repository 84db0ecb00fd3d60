-- The connectives and their rules: for propositions, for two truth values, and for three. No other file states a rule.
use Rattle.std.specs.Prelude.{◌≡◌, ◌⊎◌, ◌&&◌, ◌||◌, Bool, true, false, not, Option, Some, None}
use Rattle.std.specs.Bool.{beq}
pub use Rattle.filterset_expression.specs.declared.logic.Connective.{Connective}
pub use Rattle.filterset_expression.specs.declared.logic.Connective.TheVariants.{Conjunction, Disjunction, ExclusiveDisjunction}

abbrev pub same_connective : Connective → Connective → Bool
same_connective Conjunction Conjunction = true
same_connective Disjunction Disjunction = true
same_connective ExclusiveDisjunction ExclusiveDisjunction = true
same_connective _ _ = false

-- ---- propositions

-- one of the two holds, and the other does not
abbrev pub ExactlyOneHolds : Type 0 → Type 0 → Type 0
ExactlyOneHolds P Q = (P × (¬ Q)) ⊎ ((¬ P) × Q)

-- what the connective makes of two propositions: both hold, one does or both do, exactly one does
abbrev pub Connects : Connective → Type 0 → Type 0 → Type 0
Connects Conjunction P Q = P × Q
Connects Disjunction P Q = P ⊎ Q
Connects ExclusiveDisjunction P Q = ExactlyOneHolds P Q

-- ---- values of the left operand alone

-- The value of a left operand decides what the connective makes, whatever the right operand's is: false a conjunction,
-- and true a disjunction.
abbrev pub Decides : {L : Type 0} → L → L → Connective → L → Type 0
Decides top bottom Conjunction left = left ≡ bottom
Decides top bottom Disjunction left = left ≡ top
Decides top bottom ExclusiveDisjunction left = ⊥

-- ---- two truth values

-- whether exactly one of the two is true
abbrev pub exclusive_or : Bool → Bool → Bool
exclusive_or x y = not (beq x y)

-- what the connective makes of two truth values
abbrev pub connected : Connective → Bool → Bool → Bool
connected Conjunction x y = x && y
connected Disjunction x y = x || y
connected ExclusiveDisjunction x y = exclusive_or x y

-- ---- three truth values; `None` is unknown

-- what is unknown stays unknown
abbrev pub kleene_not : Option Bool → Option Bool
kleene_not None = None
kleene_not (Some b) = Some (not b)

-- What the connective makes of two values of three. A conjunction is false where either side is, and true where both
-- are. A disjunction is true where either side is, and false where both are. An exclusive disjunction is unknown where
-- either side is, and else true where exactly one is.
abbrev pub kleene : Connective → Option Bool → Option Bool → Option Bool
kleene Conjunction (Some false) y = Some false
kleene Conjunction (Some true) y = y
kleene Conjunction None (Some false) = Some false
kleene Conjunction None (Some true) = None
kleene Conjunction None None = None
kleene Disjunction (Some true) y = Some true
kleene Disjunction (Some false) y = y
kleene Disjunction None (Some true) = Some true
kleene Disjunction None (Some false) = None
kleene Disjunction None None = None
kleene ExclusiveDisjunction None y = None
kleene ExclusiveDisjunction (Some x) None = None
kleene ExclusiveDisjunction (Some x) (Some y) = Some (exclusive_or x y)
