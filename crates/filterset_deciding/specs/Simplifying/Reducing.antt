-- What is left of trees, for the proof of `simplify`. Only contracts of private functions cite this.
use Rattle.std.specs.Prelude.{Bool, true, false, not, Option, Some, None}
use Rattle.filterset_grammar.specs.Tree as tree
use Rattle.filterset_grammar.specs.Tree.{Leaf, Tree, Not, Union, Join, Parens, Set}
use Rattle.filterset_grammar.specs.declared.operators.Joiner.TheVariants.{Both, Without, ExactlyOne}
use Rattle.filterset_grammar.specs.declared.operators.{AndOperator.AndOperator, DifferenceOperator.DifferenceOperator}
use Rattle.filterset_grammar.specs.declared.operators.NotOperator.{NotOperator, TheVariants.LiteralNot}
use Rattle.filterset_grammar.specs.declared.operators.OrOperator.{OrOperator}
use Rattle.filterset_grammar.specs.declared.operators.SymmetricDifferenceOperator.{SymmetricDifferenceOperator}
use Rattle.filterset_language.specs.Views.{tree_of}
use Rattle.filterset_deciding.specs.Simplifying.Alike.{alike}
use Rattle.filterset_deciding.specs.Simplifying.Implying.{implies, says_one_of, admits_fact_of}
use Rattle.filterset_deciding.specs.declared.simplifying.reduction.Reduction.{Reduction}
use Rattle.filterset_deciding.specs.declared.simplifying.reduction.Reduction.TheVariants as made

-- what is left of a tree: a constant, or a tree
pub data Rest (S : Type 0) : Type 0 where
  Constant : Bool → Rest S
  Reduced : Tree S → Rest S

abbrev pub reduction_of : {S : Type 0} → Reduction S → Rest S
reduction_of (made.Constant value) = Constant value
reduction_of (made.Tree e) = Reduced (tree_of e.value)

-- the constant as a tree
abbrev pub constant : {S : Type 0} → Bool → Tree S
constant true = Set tree.All
constant false = Set tree.None

abbrev pub tree_of_rest : {S : Type 0} → Rest S → Tree S
tree_of_rest (Constant value) = constant value
tree_of_rest (Reduced e) = e

-- the operands of a node that are kept
abbrev pub both_kept : {S : Type 0} → (Tree S → Tree S → Tree S) → Option (Tree S) → Option (Tree S) → Option (Tree S)
both_kept node (Some l) (Some r) = Some (node l r)
both_kept node (Some l) None = Some l
both_kept node None r = r

abbrev pub kept_unless : {S : Type 0} → Bool → Tree S → Option (Tree S)
kept_unless true e = None
kept_unless false e = Some e

-- the tree without the disjuncts that say one of the other tree's
abbrev pub kept_disjuncts : {S : Type 0} → Tree S → Tree S → Option (Tree S)
kept_disjuncts beside (Union op l r) = both_kept (Union op) (kept_disjuncts beside l) (kept_disjuncts beside r)
kept_disjuncts beside e = kept_unless (says_one_of e beside) e

-- the tree without the conjuncts that admit a fact of the other tree
abbrev pub kept_conjuncts : {S : Type 0} → Tree S → Tree S → Option (Tree S)
kept_conjuncts beside (Join (Both op) l r) =
    both_kept (Join (Both op)) (kept_conjuncts beside l) (kept_conjuncts beside r)
kept_conjuncts beside e = kept_unless (admits_fact_of e beside) e

abbrev pub negated_tree : {S : Type 0} → NotOperator → Tree S → Tree S
negated_tree op (Not other e) = e
negated_tree op e = Not op e

abbrev pub negated : {S : Type 0} → NotOperator → Rest S → Rest S
negated op (Constant value) = Constant (not value)
negated op (Reduced e) = Reduced (negated_tree op e)

-- the node of two operands of which the right one, and then the left one, is what is kept of it
abbrev pub left_kept : {S : Type 0} → (Tree S → Tree S → Tree S) → Tree S → Option (Tree S) → Rest S
left_kept node r None = Reduced r
left_kept node r (Some l) = Reduced (node l r)

abbrev pub right_kept : {S : Type 0} → (Tree S → Tree S → Tree S) → (Tree S → Option (Tree S)) → Tree S → Option (Tree S) → Rest S
right_kept node keep l None = Reduced l
right_kept node keep l (Some r) = left_kept node r (keep r)

abbrev pub united_trees : {S : Type 0} → OrOperator → Tree S → Tree S → Rest S
united_trees op l r = right_kept (Union op) (λ beside. kept_disjuncts beside l) l (kept_disjuncts l r)

abbrev pub united : {S : Type 0} → OrOperator → Rest S → Rest S → Rest S
united op (Constant true) r = Constant true
united op (Constant false) r = r
united op (Reduced l) (Constant true) = Constant true
united op (Reduced l) (Constant false) = Reduced l
united op (Reduced l) (Reduced r) = united_trees op l r

abbrev pub intersected_trees : {S : Type 0} → AndOperator → Tree S → Tree S → Rest S
intersected_trees op l r = right_kept (Join (Both op)) (λ beside. kept_conjuncts beside l) l (kept_conjuncts l r)

abbrev pub intersected : {S : Type 0} → AndOperator → Rest S → Rest S → Rest S
intersected op (Constant true) r = r
intersected op (Constant false) r = Constant false
intersected op (Reduced l) (Constant true) = Reduced l
intersected op (Reduced l) (Constant false) = Constant false
intersected op (Reduced l) (Reduced r) = intersected_trees op l r

-- the node, or nothing
abbrev pub none_if : {S : Type 0} → Bool → Tree S → Rest S
none_if true e = Constant false
none_if false e = Reduced e

abbrev pub subtracted : {S : Type 0} → DifferenceOperator → Rest S → Rest S → Rest S
subtracted op (Constant true) r = negated LiteralNot r
subtracted op (Constant false) r = Constant false
subtracted op (Reduced l) (Constant true) = Constant false
subtracted op (Reduced l) (Constant false) = Reduced l
subtracted op (Reduced l) (Reduced r) = none_if (implies l r) (Join (Without op) l r)

abbrev pub differing : {S : Type 0} → SymmetricDifferenceOperator → Rest S → Rest S → Rest S
differing op (Constant true) r = negated LiteralNot r
differing op (Constant false) r = r
differing op (Reduced l) (Constant true) = negated LiteralNot (Reduced l)
differing op (Reduced l) (Constant false) = Reduced l
differing op (Reduced l) (Reduced r) = none_if (alike l r) (Join (ExactlyOne op) l r)

abbrev pub reduced_leaf : {S : Type 0} → Leaf S → Rest S
reduced_leaf tree.All = Constant true
reduced_leaf tree.None = Constant false
reduced_leaf leaf = Reduced (Set leaf)

abbrev pub reduced : {S : Type 0} → Tree S → Rest S
reduced (Not op e) = negated op (reduced e)
reduced (Union op l r) = united op (reduced l) (reduced r)
reduced (Join (Both op) l r) = intersected op (reduced l) (reduced r)
reduced (Join (Without op) l r) = subtracted op (reduced l) (reduced r)
reduced (Join (ExactlyOne op) l r) = differing op (reduced l) (reduced r)
reduced (Parens e) = reduced e
reduced (Set leaf) = reduced_leaf leaf
