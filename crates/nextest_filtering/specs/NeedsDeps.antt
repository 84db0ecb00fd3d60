-- Which filtersets have a `deps` or an `rdeps`.
use Rattle.std.specs.Prelude.{◌⊎◌}
use Rattle.filterset_grammar.specs.Tree.{Leaf, Tree, Matching, Not, Union, Join, Parens, Set}
use Rattle.filterset_grammar.specs.declared.predicate.Predicate.TheVariants as predicates

-- the predicate is `deps` or `rdeps`
abbrev pub IsOfDeps : {S : Type 0} → Leaf S → Type 0
IsOfDeps (Matching predicates.Deps m s) = Unit {0}
IsOfDeps (Matching predicates.Rdeps m s) = Unit {0}
IsOfDeps _ = ⊥

-- a predicate of the tree is
abbrev pub HasDeps : {S : Type 0} → Tree S → Type 0
HasDeps (Not op e) = HasDeps e
HasDeps (Union op l r) = HasDeps l ⊎ HasDeps r
HasDeps (Join op l r) = HasDeps l ⊎ HasDeps r
HasDeps (Parens e) = HasDeps e
HasDeps (Set leaf) = IsOfDeps leaf
