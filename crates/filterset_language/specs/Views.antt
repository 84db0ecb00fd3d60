-- Trees as contracts see them, without the places of their parts in memory.
use Rattle.std.specs.{Prelude.◌≡◌, Prelude.Bool, Fn.Shared, Fn.FnReturnsAt}
use denote.Ref.{Bor}
use Rattle.filterset_matchers.specs.Matchers.{matcher_of}
use Rattle.filterset_grammar.specs.Tree.{Leaf, Matching, Platform, Default, All, None, Tree, Not, Union, Join, Parens, Set}
use Rattle.filterset_grammar.specs.declared.operators.Joiner.TheVariants.{Both, Without, ExactlyOne}
use Rattle.filterset_grammar.specs.declared.predicate.Predicate.TheVariants.{Package, Deps, Rdeps, Kind, Binary, BinaryId, Test, Group}
use Rattle.filterset_language.specs.declared.tree.{ParsedLeaf.ParsedLeaf, ParsedExpr.ParsedExpr}
use Rattle.filterset_language.specs.declared.tree.ParsedLeaf.TheVariants as leaves
use Rattle.filterset_language.specs.declared.tree.ParsedExpr.TheVariants as exprs

-- a `ParsedLeaf` as the predicate that it stands for
abbrev pub leaf_of : {S : Type 0} → ParsedLeaf S → Leaf S
leaf_of (leaves.Package m s) = Matching Package (matcher_of m) s
leaf_of (leaves.Deps m s) = Matching Deps (matcher_of m) s
leaf_of (leaves.Rdeps m s) = Matching Rdeps (matcher_of m) s
leaf_of (leaves.Kind m s) = Matching Kind (matcher_of m) s
leaf_of (leaves.Binary m s) = Matching Binary (matcher_of m) s
leaf_of (leaves.BinaryId m s) = Matching BinaryId (matcher_of m) s
leaf_of (leaves.Platform p s) = Platform p s
leaf_of (leaves.Test m s) = Matching Test (matcher_of m) s
leaf_of (leaves.Group m s) = Matching Group (matcher_of m) s
leaf_of (leaves.Default s) = Default s
leaf_of leaves.All = All
leaf_of leaves.None = None

-- a `ParsedExpr` as the tree that it stands for
abbrev pub tree_of : {S : Type 0} → ParsedExpr S → Tree S
tree_of (exprs.Not' op p e) = Not op (tree_of e)
tree_of (exprs.Union' op p l q r) = Union op (tree_of l) (tree_of r)
tree_of (exprs.Intersection' op p l q r) = Join (Both op) (tree_of l) (tree_of r)
tree_of (exprs.Difference' op p l q r) = Join (Without op) (tree_of l) (tree_of r)
tree_of (exprs.SymmetricDifference' op p l q r) = Join (ExactlyOne op) (tree_of l) (tree_of r)
tree_of (exprs.Parens' p e) = Parens (tree_of e)
tree_of (exprs.Set l) = Set (leaf_of l)

-- the function answers of each predicate as the test does
abbrev pub AnswersAs : {F S : Type 0} → Shared F (Bor (ParsedLeaf S) × Unit {0}) Bool → F → (Leaf S → Bool) → Type 0
AnswersAs {F} {S} calls f test =
    (leaf : ParsedLeaf S) (answer : Bool) → FnReturnsAt calls f leaf answer → answer ≡ test (leaf_of leaf)
