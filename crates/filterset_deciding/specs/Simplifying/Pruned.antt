-- Trees that are left of others.
use Rattle.filterset_grammar.specs.Tree.{Leaf, Tree, Not, Union, Join, Parens, Set}
use Rattle.filterset_grammar.specs.declared.operators.{Joiner.Joiner, NotOperator.NotOperator}
use Rattle.filterset_grammar.specs.declared.operators.{NotOperator.TheVariants.LiteralNot, OrOperator.OrOperator}

-- The second tree is what is left of the first without some of its operands: predicates and operators are as they were
-- written, and in their order. A `not` comes in where the other operand of an operator of the level of `and` goes. Where
-- parentheses stand is no matter.
pub data IsLeftOf {S : Type 0} : Tree S → Tree S → Type 0 where
  leaf : {l : Leaf S} → IsLeftOf (Set l) (Set l)
  negation : {op : NotOperator} {e d : Tree S} → IsLeftOf e d → IsLeftOf (Not op e) (Not op d)
  union : {op : OrOperator} {l r a b : Tree S} → IsLeftOf l a → IsLeftOf r b → IsLeftOf (Union op l r) (Union op a b)
  join : {op : Joiner} {l r a b : Tree S} → IsLeftOf l a → IsLeftOf r b → IsLeftOf (Join op l r) (Join op a b)
  of_negation : {op : NotOperator} {e d : Tree S} → IsLeftOf e d → IsLeftOf (Not op e) d
  of_union_left : {op : OrOperator} {l r d : Tree S} → IsLeftOf l d → IsLeftOf (Union op l r) d
  of_union_right : {op : OrOperator} {l r d : Tree S} → IsLeftOf r d → IsLeftOf (Union op l r) d
  of_join_left : {op : Joiner} {l r d : Tree S} → IsLeftOf l d → IsLeftOf (Join op l r) d
  of_join_right : {op : Joiner} {l r d : Tree S} → IsLeftOf r d → IsLeftOf (Join op l r) d
  left_negated : {op : Joiner} {l r d : Tree S} → IsLeftOf l d → IsLeftOf (Join op l r) (Not LiteralNot d)
  right_negated : {op : Joiner} {l r d : Tree S} → IsLeftOf r d → IsLeftOf (Join op l r) (Not LiteralNot d)
  of_parens : {e d : Tree S} → IsLeftOf e d → IsLeftOf (Parens e) d
  enclosed : {e d : Tree S} → IsLeftOf e d → IsLeftOf e (Parens d)
