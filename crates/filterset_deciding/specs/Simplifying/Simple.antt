-- Trees that have nothing to leave out.
use Rattle.std.specs.Prelude.{◌≡◌, ◌⊎◌, Contains, false}
use Rattle.filterset_grammar.specs.AddedParens.{IsWithParens}
use Rattle.filterset_grammar.specs.Tree as tree
use Rattle.filterset_grammar.specs.Tree.{Tree, Not, Union, Join, Parens, Set}
use Rattle.filterset_grammar.specs.declared.operators.Joiner.TheVariants.{Both, Without, ExactlyOne}
use Rattle.filterset_deciding.specs.Simplifying.Alike.{alike}
use Rattle.filterset_deciding.specs.Simplifying.Implying.{disjuncts, conjuncts, facts, says, admits, implies}

-- `all()` or `none()`
abbrev pub IsConstant : {S : Type 0} → Tree S → Type 0
IsConstant (Set tree.All) = Unit {0}
IsConstant (Set tree.None) = Unit {0}
IsConstant e = ⊥

abbrev pub IsNegation : {S : Type 0} → Tree S → Type 0
IsNegation (Not op e) = Unit {0}
IsNegation e = ⊥

-- No disjunct of the one says a disjunct of the other: else it would change nothing beside it.
abbrev pub AreApartInUnion : {S : Type 0} → Tree S → Tree S → Type 0
AreApartInUnion {S} l r =
    (x y : Tree S) → Contains (disjuncts l) x → Contains (disjuncts r) y → (says x y ≡ false) × (says y x ≡ false)

-- No conjunct of the one admits a fact of the other: else it would change nothing beside it.
abbrev pub AreApartInIntersection : {S : Type 0} → Tree S → Tree S → Type 0
AreApartInIntersection {S} l r =
    ((x y : Tree S) → Contains (conjuncts l) x → Contains (facts r) y → admits x y ≡ false)
    × ((x y : Tree S) → Contains (facts l) x → Contains (conjuncts r) y → admits y x ≡ false)

-- The tree has no constant, no parentheses and no double negation. No operand of a union or an intersection changes
-- nothing beside the other, no left operand of a difference implies the right one, and the operands of a symmetric
-- difference are not alike.
abbrev pub IsReduced : {S : Type 0} → Tree S → Type 0
IsReduced (Not op e) = (¬ IsNegation e) × IsReduced e
IsReduced (Union op l r) = AreApartInUnion l r × IsReduced l × IsReduced r
IsReduced (Join (Both op) l r) = AreApartInIntersection l r × IsReduced l × IsReduced r
IsReduced (Join (Without op) l r) = (implies l r ≡ false) × IsReduced l × IsReduced r
IsReduced (Join (ExactlyOne op) l r) = (alike l r ≡ false) × IsReduced l × IsReduced r
IsReduced (Parens e) = ⊥
IsReduced (Set leaf) = ¬ IsConstant (Set leaf)

-- the tree is a constant, or such a tree with the parentheses that its operands need, and no others
abbrev pub IsSimple : {S : Type 0} → Tree S → Type 0
IsSimple {S} e = IsConstant e ⊎ ((bare : Tree S) × IsReduced bare × IsWithParens bare e)
