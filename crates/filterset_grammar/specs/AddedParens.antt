-- Trees with parentheses added round operands that would not parse back.
use Rattle.std.specs.Prelude.{All}
use Rattle.filterset_grammar.specs.Tree.{Joiner, Tree, Not, Union, Join, Parens, Set, Leaf, tree_leaves}
use Rattle.filterset_grammar.specs.Printing.{IsBasic, IsNoUnion, IsWellFormedLeaf}
use Rattle.filterset_grammar.specs.declared.operators.{NotOperator.NotOperator, OrOperator.OrOperator}

-- the tree stands as it is where it may, and else between one pair of parentheses
pub data IsEnclosedUnless {S : Type 0} (may : Type 0) (e : Tree S) : Tree S → Type 0 where
  stands : may → IsEnclosedUnless may e e
  enclosed : (may → ⊥) → IsEnclosedUnless may e (Parens e)

-- The second tree is the first with one pair of parentheses round each operand that is not of the level where it
-- stands, and round nothing else: of a negation and on the right at the level of `and` round all that is not basic, on
-- the left at the level of `and` and on the right of a union round a union.
pub data IsWithParens {S : Type 0} : Tree S → Tree S → Type 0 where
  negation : {op : NotOperator} {e d f : Tree S}
      → IsWithParens e d → IsEnclosedUnless (IsBasic e) d f → IsWithParens (Not op e) (Not op f)
  union : {op : OrOperator} {l a r b d : Tree S}
      → IsWithParens l a → IsWithParens r b → IsEnclosedUnless (IsNoUnion r) b d
      → IsWithParens (Union op l r) (Union op a d)
  join : {op : Joiner} {l a c r b d : Tree S}
      → IsWithParens l a → IsEnclosedUnless (IsNoUnion l) a c → IsWithParens r b → IsEnclosedUnless (IsBasic r) b d
      → IsWithParens (Join op l r) (Join op c d)
  parens : {e d : Tree S} → IsWithParens e d → IsWithParens (Parens e) (Parens d)
  leaf : {l : Leaf S} → IsWithParens (Set l) (Set l)

-- each predicate of the tree is well formed, whatever its operands are
abbrev pub HasWellFormedLeaves : {S : Type 0} → Tree S → Type 0
HasWellFormedLeaves e = All IsWellFormedLeaf (tree_leaves e)
