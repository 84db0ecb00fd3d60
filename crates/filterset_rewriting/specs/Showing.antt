-- Trees whose parentheses show how they are read.
use Rattle.std.specs.Prelude.{Bool, true, false, not}
use Rattle.filterset_grammar.specs.Tree.{Tree, Not, Union, Join, Parens, Set}
use Rattle.filterset_grammar.specs.declared.operators.Joiner.{Joiner}
use Rattle.filterset_grammar.specs.declared.operators.Joiner.TheVariants.{Both, Without, ExactlyOne}

-- operators of the level of `and` are of one sort: intersections, differences or symmetric differences
abbrev pub are_one_sort : Joiner → Joiner → Bool
are_one_sort (Both a) (Both b) = true
are_one_sort (Without a) (Without b) = true
are_one_sort (ExactlyOne a) (ExactlyOne b) = true
are_one_sort _ _ = false

-- an operator of the level of `and` joins the tree
abbrev pub is_joined : {S : Type 0} → Tree S → Bool
is_joined (Join op l r) = true
is_joined _ = false

-- one does, of another sort than this
abbrev pub is_joined_otherwise : {S : Type 0} → Joiner → Tree S → Bool
is_joined_otherwise op (Join with l r) = not (are_one_sort op with)
is_joined_otherwise op _ = false

abbrev pub enclosed_if : {S : Type 0} → Bool → Tree S → Tree S
enclosed_if true e = Parens e
enclosed_if false e = e

-- The tree with parentheses around each operand of a union that an operator of the level of `and` joins, and around each left
-- operand of such an operator that one of another sort joins.
abbrev pub shown : {S : Type 0} → Tree S → Tree S
shown (Not op e) = Not op (shown e)
shown (Union op l r) = Union op (enclosed_if (is_joined l) (shown l)) (enclosed_if (is_joined r) (shown r))
shown (Join op l r) = Join op (enclosed_if (is_joined_otherwise op l) (shown l)) (shown r)
shown (Parens e) = Parens (shown e)
shown (Set l) = Set l

-- the tree without its parentheses
abbrev pub without_parens : {S : Type 0} → Tree S → Tree S
without_parens (Not op e) = Not op (without_parens e)
without_parens (Union op l r) = Union op (without_parens l) (without_parens r)
without_parens (Join op l r) = Join op (without_parens l) (without_parens r)
without_parens (Parens e) = without_parens e
without_parens (Set l) = Set l
