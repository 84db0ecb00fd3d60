-- The laws of a logic.
use Rattle.std.specs.Prelude.{◌≡◌}
use Rattle.filterset_expression.specs.Connectives.{Connective, Conjunction, Disjunction, ExclusiveDisjunction}

-- The laws of a logic, where `connect` says what it makes of two values: true is the unit of conjunction, and false
-- that of disjunction, both are commutative and associative, and `not_of` turns each into the other and undoes itself.
pub record IsLogic {L : Type 0} (top bottom : L) (connect : Connective → L → L → L) (not_of : L → L) : Type 0 where
  pub and_unit : (x : L) → connect Conjunction top x ≡ x
  pub or_unit : (x : L) → connect Disjunction bottom x ≡ x
  pub and_commutative : (x y : L) → connect Conjunction x y ≡ connect Conjunction y x
  pub or_commutative : (x y : L) → connect Disjunction x y ≡ connect Disjunction y x
  pub and_associative : (x y z : L)
      → connect Conjunction (connect Conjunction x y) z ≡ connect Conjunction x (connect Conjunction y z)
  pub or_associative : (x y z : L)
      → connect Disjunction (connect Disjunction x y) z ≡ connect Disjunction x (connect Disjunction y z)
  pub not_and : (x y : L) → not_of (connect Conjunction x y) ≡ connect Disjunction (not_of x) (not_of y)
  pub not_or : (x y : L) → not_of (connect Disjunction x y) ≡ connect Conjunction (not_of x) (not_of y)
  pub not_not : (x : L) → not_of (not_of x) ≡ x

-- The laws of its exclusive disjunction: it is commutative and associative, false is its unit, and with true it is
-- `not_of`.
pub record IsExclusiveOr {L : Type 0} (top bottom : L) (connect : Connective → L → L → L) (not_of : L → L)
    : Type 0 where
  pub xor_unit : (x : L) → connect ExclusiveDisjunction bottom x ≡ x
  pub xor_top : (x : L) → connect ExclusiveDisjunction top x ≡ not_of x
  pub xor_commutative : (x y : L) → connect ExclusiveDisjunction x y ≡ connect ExclusiveDisjunction y x
  pub xor_associative : (x y z : L)
      → connect ExclusiveDisjunction (connect ExclusiveDisjunction x y) z
      ≡ connect ExclusiveDisjunction x (connect ExclusiveDisjunction y z)
