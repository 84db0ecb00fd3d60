-- The connectives of two values and those of three keep the laws of a logic.
use Rattle.std.specs.Prelude.{true, false, not, Some, refl}
use Rattle.std.proofs.{Common.arith, lemmas.Bool.Decides.nat_tests}
use Rattle.filterset_expression.specs.Connectives.{connected, kleene, kleene_not}
use Rattle.filterset_expression.specs.Logics.{IsLogic, IsExclusiveOr}

pub bool_is_logic : IsLogic true false connected not
bool_is_logic = record {
  and_unit = λ x. grind (arith, nat_tests);
  or_unit = λ x. grind (arith, nat_tests);
  and_commutative = λ x y. grind (arith, nat_tests);
  or_commutative = λ x y. grind (arith, nat_tests);
  and_associative = λ x y z. grind (arith, nat_tests);
  or_associative = λ x y z. grind (arith, nat_tests);
  not_and = λ x y. grind (arith, nat_tests);
  not_or = λ x y. grind (arith, nat_tests);
  not_not = λ x. grind (arith, nat_tests);
}

pub kleene_is_logic : IsLogic (Some true) (Some false) kleene kleene_not
kleene_is_logic = record {
  and_unit = λ x. refl;
  or_unit = λ x. refl;
  and_commutative = λ x y. grind (arith, nat_tests);
  or_commutative = λ x y. grind (arith, nat_tests);
  and_associative = λ x y z. grind (arith, nat_tests);
  or_associative = λ x y z. grind (arith, nat_tests);
  not_and = λ x y. grind (arith, nat_tests);
  not_or = λ x y. grind (arith, nat_tests);
  not_not = λ x. grind (arith, nat_tests);
}

pub bool_has_exclusive_or : IsExclusiveOr true false connected not
bool_has_exclusive_or = record {
  xor_unit = λ x. grind (arith, nat_tests);
  xor_top = λ x. grind (arith, nat_tests);
  xor_commutative = λ x y. grind (arith, nat_tests);
  xor_associative = λ x y z. grind (arith, nat_tests);
}

pub kleene_has_exclusive_or : IsExclusiveOr (Some true) (Some false) kleene kleene_not
kleene_has_exclusive_or = record {
  xor_unit = λ x. grind (arith, nat_tests);
  xor_top = λ x. grind (arith, nat_tests);
  xor_commutative = λ x y. grind (arith, nat_tests);
  xor_associative = λ x y z. grind (arith, nat_tests);
}
