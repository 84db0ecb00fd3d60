-- The nodes of a tree.
use Rattle.std.specs.Prelude.{ℕ, ◌+◌, List, [], ◌∷◌, ◌++◌}
use Rattle.filterset_grammar.specs.Tree.{Tree, Not, Union, Join, Parens, Set}

-- The predicates and the operators of a tree, each with the number of operators that it stands under: an operator before
-- its operands, and the left operand's nodes before those of the right one. A node is the tree of which it is the top.
-- Parentheses are no node, and what they hold stands in their place.
abbrev pub tree_nodes : {S : Type 0} → ℕ → Tree S → List (ℕ × Tree S)
tree_nodes depth (Not op e) = (depth, Not op e) ∷ tree_nodes (depth + 1) e
tree_nodes depth (Union op a b) = (depth, Union op a b) ∷ (tree_nodes (depth + 1) a ++ tree_nodes (depth + 1) b)
tree_nodes depth (Join op a b) = (depth, Join op a b) ∷ (tree_nodes (depth + 1) a ++ tree_nodes (depth + 1) b)
tree_nodes depth (Parens e) = tree_nodes depth e
tree_nodes depth (Set leaf) = (depth, Set leaf) ∷ []
