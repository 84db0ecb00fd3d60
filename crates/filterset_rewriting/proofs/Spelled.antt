-- A tree without `^` means the same.
use Rattle.std.proofs.Common.{◌≡◌, ◌↔◌, ◌∙◌, ◌⊎◌, ◌++◌, List, ⊎_elim, inl, inr, arith, length, refl, subst, sym}
use Rattle.std.specs.Prelude.{All, IsTrue}
use Rattle.std.proofs.lemmas.List.{drop_at, take_at, Elements.All-append, Elements.All-drop, Elements.All-same, Elements.All-take}
use Rattle.filterset_expression.proofs.{AddedParens.same_formula, Connectives.connects_alike}
use Rattle.filterset_expression.specs.declared.logic.Connective.TheVariants.{Conjunction, Disjunction}
use Rattle.filterset_expression.specs.{Formula.Formula, Formula.TrueWhere, Meaning.tree_formula}
use Rattle.filterset_grammar.specs.AddedParens.{HasWellFormedLeaves, IsEnclosedUnless, IsWithParens, enclosed, join, leaf, negation, parens, stands, union}
use Rattle.filterset_grammar.specs.Printing.{IsWellFormedLeaf}
use Rattle.filterset_grammar.specs.Tree.{Leaf, Tree, Not, Union, Join, Parens, Set, tree_leaves}
use Rattle.filterset_grammar.specs.declared.operators.Joiner.{Joiner}
use Rattle.filterset_grammar.specs.declared.operators.Joiner.TheVariants.{Both, Without, ExactlyOne}
use Rattle.filterset_rewriting.specs.Spelling.{MeanTheSame, caret_count, joined_without, spelled_out}

-- ---- no `^` is left

pub none_left : {S : Type 0} (e : Tree S) → caret_count (spelled_out e) ≡ 0
none_left (Not op e) = none_left e
none_left (Union op l r) = omega (arith, none_left l, none_left r)
none_left (Join (Both op) l r) = omega (arith, none_left l, none_left r)
none_left (Join (Without op) l r) = omega (arith, none_left l, none_left r)
none_left (Join (ExactlyOne op) l r) = omega (arith, none_left l, none_left r)
none_left (Parens e) = none_left e
none_left (Set l) = refl

count_enclosed : {S : Type 0} {may : Type 0} {d f : Tree S} → IsEnclosedUnless may d f → caret_count f ≡ caret_count d
count_enclosed (stands h) = refl
count_enclosed (enclosed h) = refl

-- parentheses that are added hold no other operators
pub same_count : {S : Type 0} {e d : Tree S} → IsWithParens e d → caret_count d ≡ caret_count e
same_count (negation added placed) = count_enclosed placed ∙ same_count added
same_count (union {op} {l} {a} {r} {b} {d} left right placed) =
    omega (arith, same_count left, same_count right, count_enclosed placed)
same_count (join {op = Both o} {l} {a} {c} {r} {b} {d} left first right second) =
    omega (arith, same_count left, same_count right, count_enclosed first, count_enclosed second)
same_count (join {op = Without o} {l} {a} {c} {r} {b} {d} left first right second) =
    omega (arith, same_count left, same_count right, count_enclosed first, count_enclosed second)
same_count (join {op = ExactlyOne o} {l} {a} {c} {r} {b} {d} left first right second) =
    omega (arith, same_count left, same_count right, count_enclosed first, count_enclosed second)
same_count (parens added) = same_count added
same_count leaf = refl

-- ---- the meaning is the same

negated_alike : (P R : Type 0) → P ↔ R → (¬ P) ↔ (¬ R)
negated_alike P R e = (λ p r. p (e.1 r), λ r p. r (e.0 p))

-- one of two and not the other, or the other and not the one: exactly one
either_way : (P Q R S : Type 0) → P ↔ R → Q ↔ S → ((P × (¬ Q)) ⊎ (Q × (¬ P))) ↔ ((R × (¬ S)) ⊎ ((¬ R) × S))
either_way P Q R S e k = (
  ⊎_elim (λ p. inl (e.0 p.0, λ s. p.1 (k.1 s))) (λ q. inr (λ r. q.1 (e.1 r), k.0 q.0)),
  ⊎_elim (λ r. inl (e.1 r.0, λ q. r.1 (k.0 q))) (λ s. inr (k.1 s.1, λ p. s.0 (e.0 p))),
)

pub same_truth : {S : Type 0} (holds : Leaf S → Type 0) (e : Tree S)
    → TrueWhere holds (tree_formula (spelled_out e)) ↔ TrueWhere holds (tree_formula e)
same_truth holds (Not op e) = negated_alike _ _ (same_truth holds e)
same_truth holds (Union op l r) = connects_alike Disjunction _ _ _ _ (same_truth holds l) (same_truth holds r)
same_truth holds (Join (Both op) l r) = connects_alike Conjunction _ _ _ _ (same_truth holds l) (same_truth holds r)
same_truth holds (Join (Without op) l r) =
    connects_alike Conjunction _ _ _ _ (same_truth holds l) (negated_alike _ _ (same_truth holds r))
same_truth holds (Join (ExactlyOne op) l r) = either_way _ _ _ _ (same_truth holds l) (same_truth holds r)
same_truth holds (Parens e) = same_truth holds e
same_truth holds (Set l) = (λ h. h, λ h. h)

-- ---- the leaves are the same

both_all : {X : Type 0} (P : X → Type 0) (xs ys : List X) → All P (xs ++ ys) → All P xs × All P ys
both_all P xs ys all =
    (All-same P _ _ (sym (take_at xs ys _ refl)) (All-take P (length xs) _ all), All-same P _ _ (sym (drop_at xs ys _ refl)) (All-drop P (length xs) _ all))

joined_leaves : {S : Type 0} (op : Joiner) (l r : Tree S) → HasWellFormedLeaves l → HasWellFormedLeaves r
    → HasWellFormedLeaves (joined_without op l r)
joined_leaves (Both op) l r left right = All-append IsWellFormedLeaf (tree_leaves l) (tree_leaves r) left right
joined_leaves (Without op) l r left right = All-append IsWellFormedLeaf (tree_leaves l) (tree_leaves r) left right
joined_leaves (ExactlyOne op) l r left right =
    All-append IsWellFormedLeaf (tree_leaves l ++ tree_leaves r) (tree_leaves r ++ tree_leaves l)
    (All-append IsWellFormedLeaf (tree_leaves l) (tree_leaves r) left right)
    (All-append IsWellFormedLeaf (tree_leaves r) (tree_leaves l) right left)

pub same_leaves : {S : Type 0} (e : Tree S) → HasWellFormedLeaves e → HasWellFormedLeaves (spelled_out e)
same_leaves (Not op e) formed = same_leaves e formed
same_leaves (Union op l r) formed =
    let both = both_all IsWellFormedLeaf (tree_leaves l) (tree_leaves r) formed in
    All-append IsWellFormedLeaf (tree_leaves (spelled_out l)) (tree_leaves (spelled_out r))
    (same_leaves l both.0) (same_leaves r both.1)
same_leaves (Join op l r) formed =
    let both = both_all IsWellFormedLeaf (tree_leaves l) (tree_leaves r) formed in
    joined_leaves op (spelled_out l) (spelled_out r) (same_leaves l both.0) (same_leaves r both.1)
same_leaves (Parens e) formed = same_leaves e formed
same_leaves (Set l) formed = formed

-- ---- with the parentheses that it needs

pub no_caret : {S : Type 0} (e d : Tree S) → IsWithParens (spelled_out e) d → caret_count d ≡ 0
no_caret e d added = same_count added ∙ none_left e

pub mean_the_same : {S : Type 0} (e d : Tree S) → IsWithParens (spelled_out e) d → MeanTheSame d e
mean_the_same {S} e d added holds =
    let True : Formula (Leaf S) → Type 0 = λ f. TrueWhere (λ l. IsTrue (holds l)) f in
    let Is : Formula (Leaf S) → Type 0 = λ f. True f ↔ True (tree_formula e) in
    subst Is (sym (same_formula added)) (same_truth (λ l. IsTrue (holds l)) e)
