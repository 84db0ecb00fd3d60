-- The trees of filtersets.
use Rattle.std.specs.Prelude.{◌≡◌, Bool, true, false, List, [], ◌∷◌, ◌++◌}
use Rattle.std.specs.List.{filter}
use Rattle.filterset_matchers.specs.Matcher.{Matcher}
use Rattle.filterset_graph.specs.declared.package.BuildPlatform.{BuildPlatform}
use Rattle.filterset_grammar.specs.declared.operators.{NotOperator.NotOperator, OrOperator.OrOperator}
pub use Rattle.filterset_grammar.specs.declared.operators.Joiner.{Joiner}
pub use Rattle.filterset_grammar.specs.declared.operators.Joiner.TheVariants.{Both, Without, ExactlyOne}
pub use Rattle.filterset_grammar.specs.declared.predicate.Predicate.{Predicate}
pub use Rattle.filterset_grammar.specs.declared.predicate.Predicate.TheVariants.{Package, Deps, Rdeps, Kind, Binary, BinaryId, Test, Group}

-- a predicate with its value, and with a span where it has one
pub data Leaf (S : Type 0) : Type 0 where
  Matching : Predicate → Matcher → S → Leaf S
  Platform : BuildPlatform → S → Leaf S
  Default : S → Leaf S
  All : Leaf S
  None : Leaf S

-- a filterset's tree; both binary levels nest to the left
pub data Tree (S : Type 0) : Type 0 where
  Not : NotOperator → Tree S → Tree S
  Union : OrOperator → Tree S → Tree S → Tree S
  Join : Joiner → Tree S → Tree S → Tree S
  Parens : Tree S → Tree S
  Set : Leaf S → Tree S

-- a predicate without its span
abbrev pub leaf_without_span : {S : Type 0} → Leaf S → Leaf (Unit {0})
leaf_without_span (Matching p m s) = Matching p m tt
leaf_without_span (Platform p s) = Platform p tt
leaf_without_span (Default s) = Default tt
leaf_without_span All = All
leaf_without_span None = None

-- a tree without its spans
abbrev pub without_spans : {S : Type 0} → Tree S → Tree (Unit {0})
without_spans (Not op e) = Not op (without_spans e)
without_spans (Union op l r) = Union op (without_spans l) (without_spans r)
without_spans (Join op l r) = Join op (without_spans l) (without_spans r)
without_spans (Parens e) = Parens (without_spans e)
without_spans (Set l) = Set (leaf_without_span l)

-- the trees are the same but for their spans: operators as they are written, parentheses, signs and texts included
abbrev pub SameTree : {S T : Type 0} → Tree S → Tree T → Type 0
SameTree d e = without_spans d ≡ without_spans e

-- the predicates of a tree, from left to right
abbrev pub tree_leaves : {S : Type 0} → Tree S → List (Leaf S)
tree_leaves (Not op e) = tree_leaves e
tree_leaves (Union op l r) = tree_leaves l ++ tree_leaves r
tree_leaves (Join op l r) = tree_leaves l ++ tree_leaves r
tree_leaves (Parens e) = tree_leaves e
tree_leaves (Set l) = l ∷ []

-- whether the test itself decides the predicate, and not its binary alone
abbrev pub is_runtime_only : {S : Type 0} → Leaf S → Bool
is_runtime_only (Matching Test m s) = true
is_runtime_only (Matching Group m s) = true
is_runtime_only (Default s) = true
is_runtime_only _ = false

-- such predicates of a tree, from left to right
abbrev pub runtime_only : {S : Type 0} → Tree S → List (Leaf S)
runtime_only e = filter is_runtime_only (tree_leaves e)
