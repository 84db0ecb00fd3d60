-- Added parentheses make a tree well formed, and change none that is.
use Rattle.std.proofs.Common.{◌≡◌, List, [], ◌∷◌, ◌++◌, refl, ap, ◌∙◌}
use Rattle.std.specs.Prelude.{All}
use Rattle.std.proofs.lemmas.List.Elements.{All-nil, All-cons, All-head, All-tail}
use Rattle.filterset_faults.specs.declared.span.SourceSpan.{SourceSpan}
use Rattle.filterset_grammar.specs.Tree as tree
use Rattle.filterset_grammar.specs.Tree.{Leaf, Tree, tree_leaves, SameTree}
use Rattle.filterset_grammar.specs.declared.operators.{Joiner.Joiner, NotOperator.NotOperator, OrOperator.OrOperator}
use Rattle.filterset_grammar.specs.Grammar.{Spells}
use Rattle.filterset_grammar.specs.Printing.{printed, IsBasic, IsNoUnion, IsWellFormedLeaf, WellFormed}
use Rattle.filterset_grammar.specs.AddedParens.{IsEnclosedUnless, stands, enclosed, IsWithParens, negation, union, join, parens, leaf, HasWellFormedLeaves}
use Rattle.filterset_language.specs.{Held.IsHeld, Levels.IsOperand}
use Rattle.filterset_language.proofs.ReadBack.{printed_reads_back}

-- ---- operands

pub stays : {S : Type 0} (may : Type 0) {e d : Tree S} → IsWithParens e d → may → IsOperand may e d
stays may {e} {d} added h = record { inside = d; added = added; placed = stands h }

pub goes_in : {S : Type 0} (may : Type 0) {e d : Tree S} → IsWithParens e d → (may → ⊥) → IsOperand may e (tree.Parens d)
goes_in may {e} {d} added h = record { inside = d; added = added; placed = enclosed h }

-- where it may stand, it does
same : {S : Type 0} {may : Type 0} {d f : Tree S} → IsEnclosedUnless may d f → may → f ≡ d
same (stands h) m = refl
same (enclosed h) m = absurd (h m)

-- an operand that may be anything
as_it_is : {S : Type 0} {e d f : Tree S} → IsWithParens e d → IsEnclosedUnless (Unit {0}) d f → IsWithParens e f
as_it_is added (stands h) = added
as_it_is added (enclosed h) = absurd (h tt)

pub anything : {S : Type 0} {e f : Tree S} → IsOperand (Unit {0}) e f → IsWithParens e f
anything o = as_it_is o.added o.placed

pub negated : {S : Type 0} (op : NotOperator) {e f : Tree S} → IsOperand (IsBasic e) e f → IsWithParens (tree.Not op e) (tree.Not op f)
negated op o = negation o.added o.placed

pub united : {S : Type 0} (op : OrOperator) {l a r b : Tree S} → IsOperand (Unit {0}) l a → IsOperand (IsNoUnion r) r b
    → IsWithParens (tree.Union op l r) (tree.Union op a b)
united op left right = union (anything left) right.added right.placed

pub joined : {S : Type 0} (op : Joiner) {l a r b : Tree S} → IsOperand (IsNoUnion l) l a → IsOperand (IsBasic r) r b
    → IsWithParens (tree.Join op l r) (tree.Join op a b)
joined op left right = join left.added left.placed right.added right.placed

pub surrounded : {S : Type 0} {e f : Tree S} → IsOperand (Unit {0}) e f → IsWithParens (tree.Parens e) (tree.Parens f)
surrounded o = parens (anything o)

pub leaf_alone : {S : Type 0} (l : Leaf S) → IsWithParens (tree.Set l) (tree.Set l)
leaf_alone l = leaf

-- ---- levels

basic_kept : {S : Type 0} {e d : Tree S} → IsWithParens e d → IsBasic e → IsBasic d
basic_kept (negation added placed) h = tt
basic_kept (union left right placed) h = h
basic_kept (join left first right second) h = h
basic_kept (parens added) h = tt
basic_kept leaf h = tt

no_union_kept : {S : Type 0} {e d : Tree S} → IsWithParens e d → IsNoUnion e → IsNoUnion d
no_union_kept (negation added placed) h = tt
no_union_kept (union left right placed) h = h
no_union_kept (join left first right second) h = tt
no_union_kept (parens added) h = tt
no_union_kept leaf h = tt

basic_placed : {S : Type 0} {e d f : Tree S} → IsWithParens e d → IsEnclosedUnless (IsBasic e) d f → IsBasic f
basic_placed added (stands h) = basic_kept added h
basic_placed added (enclosed h) = tt

no_union_placed : {S : Type 0} {e d f : Tree S} → IsWithParens e d → IsEnclosedUnless (IsNoUnion e) d f → IsNoUnion f
no_union_placed added (stands h) = no_union_kept added h
no_union_placed added (enclosed h) = tt

-- ---- what holds of all leaves holds of those on either side

all_left : {X : Type 0} (P : X → Type 0) (xs ys : List X) → All P (xs ++ ys) → All P xs
all_left P [] ys all = All-nil P
all_left P (x ∷ xs) ys all = All-cons P x xs (All-head P x (xs ++ ys) all) (all_left P xs ys (All-tail P x (xs ++ ys) all))

all_right : {X : Type 0} (P : X → Type 0) (xs ys : List X) → All P (xs ++ ys) → All P ys
all_right P [] ys all = all
all_right P (x ∷ xs) ys all = all_right P xs ys (All-tail P x (xs ++ ys) all)

-- ---- trees

formed_placed : {S : Type 0} {may : Type 0} {d f : Tree S} → IsEnclosedUnless may d f → WellFormed d → WellFormed f
formed_placed (stands h) formed = formed
formed_placed (enclosed h) formed = formed

pub well_formed : {S : Type 0} {e d : Tree S} → IsWithParens e d → HasWellFormedLeaves e → WellFormed d
well_formed (negation added placed) leaves = (basic_placed added placed, formed_placed placed (well_formed added leaves))
well_formed (union {op} {l} {a} {r} {b} {d} left right placed) leaves =
    let first = all_left IsWellFormedLeaf (tree_leaves l) (tree_leaves r) leaves in
    let second = all_right IsWellFormedLeaf (tree_leaves l) (tree_leaves r) leaves in
    (no_union_placed right placed, well_formed left first, formed_placed placed (well_formed right second))
well_formed (join {op} {l} {a} {c} {r} {b} {d} left first right second) leaves =
    let before = all_left IsWellFormedLeaf (tree_leaves l) (tree_leaves r) leaves in
    let behind = all_right IsWellFormedLeaf (tree_leaves l) (tree_leaves r) leaves in
    (no_union_placed left first, basic_placed right second, formed_placed first (well_formed left before), formed_placed second (well_formed right behind))
well_formed (parens added) leaves = well_formed added leaves
well_formed (leaf {l}) leaves = All-head IsWellFormedLeaf l [] leaves

pub unchanged : {S : Type 0} {e d : Tree S} → IsWithParens e d → WellFormed e → d ≡ e
unchanged (negation {op} added placed) formed = ap (tree.Not op) (same placed formed.0 ∙ unchanged added formed.1)
unchanged (union {op} {l} {a} {r} {b} {d} left right placed) formed =
    ap (λ (x : Tree _). tree.Union op x d) (unchanged left formed.1)
    ∙ ap (tree.Union op l) (same placed formed.0 ∙ unchanged right formed.2)
unchanged (join {op} {l} {a} {c} {r} {b} {d} left first right second) formed =
    ap (λ (x : Tree _). tree.Join op x d) (same first formed.0 ∙ unchanged left formed.2)
    ∙ ap (tree.Join op l) (same second formed.1 ∙ unchanged right formed.3)
unchanged (parens added) formed = ap tree.Parens (unchanged added formed)
unchanged leaf formed = refl

pub reads_back : {S : Type 0} {e d : Tree S} → IsWithParens e d → IsHeld d → HasWellFormedLeaves e
    → (read : Tree SourceSpan) × Spells (printed d) read × SameTree read d
reads_back {S} {e} {d} added held leaves = (printed_reads_back d held).1 (well_formed added leaves)

-- ---- one tree alone

same_position : {S : Type 0} {may : Type 0} {d c f g : Tree S} → d ≡ c → IsEnclosedUnless may d f → IsEnclosedUnless may c g → f ≡ g
same_position e (stands h) (stands k) = e
same_position e (stands h) (enclosed k) = absurd (k h)
same_position e (enclosed h) (stands k) = absurd (h k)
same_position e (enclosed h) (enclosed k) = ap tree.Parens e

pub one_way : {S : Type 0} {e d f : Tree S} → IsWithParens e d → IsWithParens e f → d ≡ f
one_way (negation {op} a p) (negation b q) = ap (tree.Not op) (same_position (one_way a b) p q)
one_way (union {op} {l} {a} {r} {b} {d} left right p) (union {l = _} {a = a'} {r = _} {b = b'} {d = d'} other_left other_right q) =
    ap (λ (x : Tree _). tree.Union op x d) (one_way left other_left)
    ∙ ap (tree.Union op a') (same_position (one_way right other_right) p q)
one_way (join {op} {l} {a} {c} {r} {b} {d} left p right q) (join {l = _} {a = a'} {c = c'} {r = _} {b = b'} {d = d'} other_left s other_right t) =
    ap (λ (x : Tree _). tree.Join op x d) (same_position (one_way left other_left) p s)
    ∙ ap (tree.Join op c') (same_position (one_way right other_right) q t)
one_way (parens a) (parens b) = ap tree.Parens (one_way a b)
one_way leaf leaf = refl
