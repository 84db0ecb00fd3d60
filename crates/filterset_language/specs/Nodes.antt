-- The nodes of trees.
use Rattle.std.specs.Prelude.{◌≡◌, ◌<◌}
use Rattle.filterset_grammar.specs.Tree.{Not, Union, Join, Parens, Set}
use Rattle.filterset_language.specs.Views.{leaf_of, tree_of}
use Rattle.filterset_language.specs.declared.tree.ParsedExpr.{ParsedExpr, size-ParsedExpr}
use Rattle.filterset_language.specs.declared.tree.nodes.ParsedNode.{ParsedNode}
use Rattle.filterset_language.specs.declared.tree.nodes.ParsedNode.TheVariants as nodes

-- the one is less deep than the other
abbrev pub Below : {S : Type 0} → ParsedExpr S → ParsedExpr S → Type 0
Below {S} d e = size-ParsedExpr S d < size-ParsedExpr S e

-- the node is the root of the tree, and its operands are less deep
abbrev pub IsNode : {S : Type 0} → ParsedExpr S → ParsedNode S → Type 0
IsNode e (nodes.Not op d) = (tree_of e ≡ Not op (tree_of d.now)) × Below d.now e
IsNode e (nodes.Union op l r) = (tree_of e ≡ Union op (tree_of l.now) (tree_of r.now)) × Below l.now e × Below r.now e
IsNode e (nodes.Join op l r) = (tree_of e ≡ Join op (tree_of l.now) (tree_of r.now)) × Below l.now e × Below r.now e
IsNode e (nodes.Parens d) = (tree_of e ≡ Parens (tree_of d.now)) × Below d.now e
IsNode e (nodes.Set leaf) = tree_of e ≡ Set (leaf_of leaf.now)
