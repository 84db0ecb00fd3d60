-- Trees without `^`, an operator that cargo-nextest does not read.
use Rattle.std.specs.Prelude.{◌+◌, ◌↔◌, ℕ, Bool, IsTrue}
use Rattle.filterset_expression.specs.{Formula.TrueWhere, Meaning.tree_formula}
use Rattle.filterset_grammar.specs.Tree.{Leaf, Tree, Not, Union, Join, Parens, Set}
use Rattle.filterset_grammar.specs.declared.operators.{DifferenceOperator.TheVariants.Minus, Joiner.Joiner}
use Rattle.filterset_grammar.specs.declared.operators.Joiner.TheVariants.{Without, ExactlyOne}
use Rattle.filterset_grammar.specs.declared.operators.OrOperator.TheVariants.{LiteralOr}

-- how many operators of the tree are `^`
abbrev pub caret_count : {S : Type 0} → Tree S → ℕ
caret_count (Not op e) = caret_count e
caret_count (Union op l r) = caret_count l + caret_count r
caret_count (Join (ExactlyOne op) l r) = caret_count l + caret_count r + 1
caret_count (Join op l r) = caret_count l + caret_count r
caret_count (Parens e) = caret_count e
caret_count (Set l) = 0

-- the two operands joined, but `(l - r) or (r - l)` for `l ^ r`
abbrev pub joined_without : {S : Type 0} → Joiner → Tree S → Tree S → Tree S
joined_without (ExactlyOne op) l r =
    Union LiteralOr (Parens (Join (Without Minus) l r)) (Parens (Join (Without Minus) r l))
joined_without op l r = Join op l r

-- the tree with `(l - r) or (r - l)` in the place of each `l ^ r`
abbrev pub spelled_out : {S : Type 0} → Tree S → Tree S
spelled_out (Not op e) = Not op (spelled_out e)
spelled_out (Union op l r) = Union op (spelled_out l) (spelled_out r)
spelled_out (Join op l r) = joined_without op (spelled_out l) (spelled_out r)
spelled_out (Parens e) = Parens (spelled_out e)
spelled_out (Set l) = Set l

-- whichever predicates hold, the one tree is true if and only if the other is
abbrev pub MeanTheSame : {S : Type 0} → Tree S → Tree S → Type 0
MeanTheSame {S} d e = (holds : Leaf S → Bool)
    → TrueWhere (λ l. IsTrue (holds l)) (tree_formula d) ↔ TrueWhere (λ l. IsTrue (holds l)) (tree_formula e)
