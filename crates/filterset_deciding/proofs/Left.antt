-- What is left of a tree has its predicates and operators, in their order.
use Rattle.std.proofs.Common.{Bool, true, false, List, ◌++◌, length, refl, sym}
use Rattle.std.proofs.lemmas.List.{drop_at, take_at, Elements.All-append, Elements.All-drop, Elements.All-same, Elements.All-take}
use Rattle.std.specs.Prelude.{All, Option, Some, None}
use Rattle.filterset_grammar.specs.AddedParens as added
use Rattle.filterset_grammar.specs.AddedParens.{IsEnclosedUnless, IsWithParens, HasWellFormedLeaves}
use Rattle.filterset_grammar.specs.Printing.{IsWellFormedLeaf}
use Rattle.filterset_grammar.specs.Tree.{Leaf, Matching, Platform, Default, Tree, Not, Union, Join, Parens, Set, tree_leaves}
use Rattle.filterset_grammar.specs.declared.operators.Joiner.{Joiner}
use Rattle.filterset_grammar.specs.declared.operators.Joiner.TheVariants.{Both, Without, ExactlyOne}
use Rattle.filterset_grammar.specs.declared.operators.{AndOperator.AndOperator, DifferenceOperator.DifferenceOperator}
use Rattle.filterset_grammar.specs.declared.operators.NotOperator.{NotOperator, TheVariants.LiteralNot}
use Rattle.filterset_grammar.specs.declared.operators.OrOperator.{OrOperator}
use Rattle.filterset_grammar.specs.declared.operators.SymmetricDifferenceOperator.{SymmetricDifferenceOperator}
use Rattle.filterset_grammar.specs.Tree as tree
use Rattle.filterset_deciding.specs.Simplifying.Alike.{alike}
use Rattle.filterset_deciding.specs.Simplifying.Implying.{implies, says_one_of, admits_fact_of}
use Rattle.filterset_deciding.specs.Simplifying.Pruned.{IsLeftOf, leaf, negation, union, join, of_negation, of_union_left, of_union_right, of_join_left, of_join_right, left_negated, right_negated, of_parens, enclosed}
use Rattle.filterset_deciding.specs.Simplifying.Reducing.{Rest, Constant, Reduced, both_kept, kept_unless, kept_disjuncts, kept_conjuncts, negated, left_kept, right_kept, united, intersected, none_if, subtracted, differing, reduced}
use Rattle.filterset_deciding.proofs.Kept.{IfKept}

-- what a tree negates, or itself
abbrev stripped : {S : Type 0} → Tree S → Tree S
stripped (Not op e) = e
stripped e = e

both_all : {X : Type 0} (P : X → Type 0) (xs ys : List X) → All P (xs ++ ys) → All P xs × All P ys
both_all P xs ys all =
    (All-same P _ _ (sym (take_at xs ys _ refl)) (All-take P (length xs) _ all), All-same P _ _ (sym (drop_at xs ys _ refl)) (All-drop P (length xs) _ all))

module _ {S : Type 0} where
  unnegated : {e d : Tree S} → IsLeftOf e d → IsLeftOf e (stripped d)
  unnegated leaf = leaf
  unnegated (negation h) = of_negation h
  unnegated (union h k) = union h k
  unnegated (join h k) = join h k
  unnegated (of_negation h) = of_negation (unnegated h)
  unnegated (of_union_left h) = of_union_left (unnegated h)
  unnegated (of_union_right h) = of_union_right (unnegated h)
  unnegated (of_join_left h) = of_join_left (unnegated h)
  unnegated (of_join_right h) = of_join_right (unnegated h)
  unnegated (left_negated h) = of_join_left h
  unnegated (right_negated h) = of_join_right h
  unnegated (of_parens h) = of_parens (unnegated h)
  unnegated (enclosed h) = enclosed h

  -- ---- what is kept

  abbrev LeftKept : Tree S → Option (Tree S) → Type 0
  LeftKept e kept = IfKept kept (IsLeftOf e)

  part_left : (e d : Tree S) (o : Bool) → IsLeftOf e d → LeftKept e (kept_unless o d)
  part_left e d true h = tt
  part_left e d false h = h

  kept_map : (e f : Tree S) (kept : Option (Tree S)) → ((d : Tree S) → IsLeftOf e d → IsLeftOf f d) → LeftKept e kept → LeftKept f kept
  kept_map e f None step h = tt
  kept_map e f (Some d) step h = step d h

  union_left : (op : OrOperator) (l r : Tree S) (a b : Option (Tree S)) → LeftKept l a → LeftKept r b → LeftKept (Union op l r) (both_kept (Union op) a b)
  union_left op l r (Some a) (Some b) h k = union h k
  union_left op l r (Some a) None h k = of_union_left h
  union_left op l r None (Some b) h k = of_union_right k
  union_left op l r None None h k = tt

  join_left : (op : Joiner) (l r : Tree S) (a b : Option (Tree S)) → LeftKept l a → LeftKept r b → LeftKept (Join op l r) (both_kept (Join op) a b)
  join_left op l r (Some a) (Some b) h k = join h k
  join_left op l r (Some a) None h k = of_join_left h
  join_left op l r None (Some b) h k = of_join_right k
  join_left op l r None None h k = tt

  disjuncts_left : (beside : Tree S) {e d : Tree S} → IsLeftOf e d → LeftKept e (kept_disjuncts beside d)
  disjuncts_left beside (leaf {l}) = part_left (Set l) (Set l) (says_one_of (Set l) beside) leaf
  disjuncts_left beside (negation {op} {e} {d} h) = part_left (Not op e) (Not op d) (says_one_of (Not op d) beside) (negation h)
  disjuncts_left beside (union {op} {l} {r} {a} {b} h k) =
      union_left op l r (kept_disjuncts beside a) (kept_disjuncts beside b) (disjuncts_left beside h) (disjuncts_left beside k)
  disjuncts_left beside (join {op} {l} {r} {a} {b} h k) = part_left (Join op l r) (Join op a b) (says_one_of (Join op a b) beside) (join h k)
  disjuncts_left beside (of_negation {op} {e} {d} h) = kept_map e (Not op e) (kept_disjuncts beside d) (λ k p. of_negation p) (disjuncts_left beside h)
  disjuncts_left beside (of_union_left {op} {l} {r} {d} h) = kept_map l (Union op l r) (kept_disjuncts beside d) (λ k p. of_union_left p) (disjuncts_left beside h)
  disjuncts_left beside (of_union_right {op} {l} {r} {d} h) = kept_map r (Union op l r) (kept_disjuncts beside d) (λ k p. of_union_right p) (disjuncts_left beside h)
  disjuncts_left beside (of_join_left {op} {l} {r} {d} h) = kept_map l (Join op l r) (kept_disjuncts beside d) (λ k p. of_join_left p) (disjuncts_left beside h)
  disjuncts_left beside (of_join_right {op} {l} {r} {d} h) = kept_map r (Join op l r) (kept_disjuncts beside d) (λ k p. of_join_right p) (disjuncts_left beside h)
  disjuncts_left beside (left_negated {op} {l} {r} {d} h) = part_left (Join op l r) (Not LiteralNot d) (says_one_of (Not LiteralNot d) beside) (left_negated h)
  disjuncts_left beside (right_negated {op} {l} {r} {d} h) = part_left (Join op l r) (Not LiteralNot d) (says_one_of (Not LiteralNot d) beside) (right_negated h)
  disjuncts_left beside (of_parens {e} {d} h) = kept_map e (Parens e) (kept_disjuncts beside d) (λ k p. of_parens p) (disjuncts_left beside h)
  disjuncts_left beside (enclosed {e} {d} h) = part_left e (Parens d) (says_one_of (Parens d) beside) (enclosed h)

  conjuncts_left : (beside : Tree S) {e d : Tree S} → IsLeftOf e d → LeftKept e (kept_conjuncts beside d)
  conjuncts_left beside (leaf {l}) = part_left (Set l) (Set l) (admits_fact_of (Set l) beside) leaf
  conjuncts_left beside (negation {op} {e} {d} h) = part_left (Not op e) (Not op d) (admits_fact_of (Not op d) beside) (negation h)
  conjuncts_left beside (union {op} {l} {r} {a} {b} h k) = part_left (Union op l r) (Union op a b) (admits_fact_of (Union op a b) beside) (union h k)
  conjuncts_left beside (join {op = Both op} {l} {r} {a} {b} h k) =
      join_left (Both op) l r (kept_conjuncts beside a) (kept_conjuncts beside b) (conjuncts_left beside h) (conjuncts_left beside k)
  conjuncts_left beside (join {op = Without op} {l} {r} {a} {b} h k) =
      part_left (Join (Without op) l r) (Join (Without op) a b) (admits_fact_of (Join (Without op) a b) beside) (join h k)
  conjuncts_left beside (join {op = ExactlyOne op} {l} {r} {a} {b} h k) =
      part_left (Join (ExactlyOne op) l r) (Join (ExactlyOne op) a b) (admits_fact_of (Join (ExactlyOne op) a b) beside) (join h k)
  conjuncts_left beside (of_negation {op} {e} {d} h) = kept_map e (Not op e) (kept_conjuncts beside d) (λ k p. of_negation p) (conjuncts_left beside h)
  conjuncts_left beside (of_union_left {op} {l} {r} {d} h) = kept_map l (Union op l r) (kept_conjuncts beside d) (λ k p. of_union_left p) (conjuncts_left beside h)
  conjuncts_left beside (of_union_right {op} {l} {r} {d} h) = kept_map r (Union op l r) (kept_conjuncts beside d) (λ k p. of_union_right p) (conjuncts_left beside h)
  conjuncts_left beside (of_join_left {op} {l} {r} {d} h) = kept_map l (Join op l r) (kept_conjuncts beside d) (λ k p. of_join_left p) (conjuncts_left beside h)
  conjuncts_left beside (of_join_right {op} {l} {r} {d} h) = kept_map r (Join op l r) (kept_conjuncts beside d) (λ k p. of_join_right p) (conjuncts_left beside h)
  conjuncts_left beside (left_negated {op} {l} {r} {d} h) = part_left (Join op l r) (Not LiteralNot d) (admits_fact_of (Not LiteralNot d) beside) (left_negated h)
  conjuncts_left beside (right_negated {op} {l} {r} {d} h) = part_left (Join op l r) (Not LiteralNot d) (admits_fact_of (Not LiteralNot d) beside) (right_negated h)
  conjuncts_left beside (of_parens {e} {d} h) = kept_map e (Parens e) (kept_conjuncts beside d) (λ k p. of_parens p) (conjuncts_left beside h)
  conjuncts_left beside (enclosed {e} {d} h) = part_left e (Parens d) (admits_fact_of (Parens d) beside) (enclosed h)

  -- ---- what operators make

  abbrev pub LeftRest : Tree S → Rest S → Type 0
  LeftRest e (Constant v) = Unit {0}
  LeftRest e (Reduced d) = IsLeftOf e d

  negated_left : (op : NotOperator) (e : Tree S) (d : Rest S) → LeftRest e d → LeftRest (Not op e) (negated op d)
  negated_left op e (Constant v) h = tt
  negated_left op e (Reduced (Not other d)) h = of_negation (unnegated h)
  negated_left op e (Reduced (Union other l r)) h = negation h
  negated_left op e (Reduced (Join other l r)) h = negation h
  negated_left op e (Reduced (Parens d)) h = negation h
  negated_left op e (Reduced (Set l)) h = negation h

  turned_left : (op : Joiner) (l r : Tree S) (d : Rest S) → LeftRest l d → LeftRest (Join op l r) (negated LiteralNot d)
  turned_left op l r (Constant v) h = tt
  turned_left op l r (Reduced (Not other d)) h = of_join_left (unnegated h)
  turned_left op l r (Reduced (Union other a b)) h = left_negated h
  turned_left op l r (Reduced (Join other a b)) h = left_negated h
  turned_left op l r (Reduced (Parens d)) h = left_negated h
  turned_left op l r (Reduced (Set one)) h = left_negated h

  turned_right : (op : Joiner) (l r : Tree S) (d : Rest S) → LeftRest r d → LeftRest (Join op l r) (negated LiteralNot d)
  turned_right op l r (Constant v) h = tt
  turned_right op l r (Reduced (Not other d)) h = of_join_right (unnegated h)
  turned_right op l r (Reduced (Union other a b)) h = right_negated h
  turned_right op l r (Reduced (Join other a b)) h = right_negated h
  turned_right op l r (Reduced (Parens d)) h = right_negated h
  turned_right op l r (Reduced (Set one)) h = right_negated h

  rest_map : (e f : Tree S) (d : Rest S) → ((k : Tree S) → IsLeftOf e k → IsLeftOf f k) → LeftRest e d → LeftRest f d
  rest_map e f (Constant v) step h = tt
  rest_map e f (Reduced d) step h = step d h

  united_left_of : (op : OrOperator) (l r b : Tree S) (a : Option (Tree S)) → LeftKept l a → IsLeftOf r b
      → LeftRest (Union op l r) (left_kept (Union op) b a)
  united_left_of op l r b None h k = of_union_right k
  united_left_of op l r b (Some a) h k = union h k

  united_right_of : (op : OrOperator) (l r a : Tree S) (b : Option (Tree S)) → IsLeftOf l a → LeftKept r b
      → LeftRest (Union op l r) (right_kept (Union op) (λ beside. kept_disjuncts beside a) a b)
  united_right_of op l r a None h k = of_union_left h
  united_right_of op l r a (Some b) h k = united_left_of op l r b (kept_disjuncts b a) (disjuncts_left b h) k

  united_left_rest : (op : OrOperator) (l r : Tree S) (a b : Rest S) → LeftRest l a → LeftRest r b → LeftRest (Union op l r) (united op a b)
  united_left_rest op l r (Constant true) b h k = tt
  united_left_rest op l r (Constant false) b h k = rest_map r (Union op l r) b (λ x p. of_union_right p) k
  united_left_rest op l r (Reduced a) (Constant true) h k = tt
  united_left_rest op l r (Reduced a) (Constant false) h k = of_union_left h
  united_left_rest op l r (Reduced a) (Reduced b) h k = united_right_of op l r a (kept_disjuncts a b) h (disjuncts_left a k)

  intersected_left_of : (op : AndOperator) (l r b : Tree S) (a : Option (Tree S)) → LeftKept l a → IsLeftOf r b
      → LeftRest (Join (Both op) l r) (left_kept (Join (Both op)) b a)
  intersected_left_of op l r b None h k = of_join_right k
  intersected_left_of op l r b (Some a) h k = join h k

  intersected_right_of : (op : AndOperator) (l r a : Tree S) (b : Option (Tree S)) → IsLeftOf l a → LeftKept r b
      → LeftRest (Join (Both op) l r) (right_kept (Join (Both op)) (λ beside. kept_conjuncts beside a) a b)
  intersected_right_of op l r a None h k = of_join_left h
  intersected_right_of op l r a (Some b) h k = intersected_left_of op l r b (kept_conjuncts b a) (conjuncts_left b h) k

  intersected_left_rest : (op : AndOperator) (l r : Tree S) (a b : Rest S) → LeftRest l a → LeftRest r b → LeftRest (Join (Both op) l r) (intersected op a b)
  intersected_left_rest op l r (Constant true) b h k = rest_map r (Join (Both op) l r) b (λ x p. of_join_right p) k
  intersected_left_rest op l r (Constant false) b h k = tt
  intersected_left_rest op l r (Reduced a) (Constant true) h k = of_join_left h
  intersected_left_rest op l r (Reduced a) (Constant false) h k = tt
  intersected_left_rest op l r (Reduced a) (Reduced b) h k = intersected_right_of op l r a (kept_conjuncts a b) h (conjuncts_left a k)

  none_left : (e d : Tree S) (o : Bool) → IsLeftOf e d → LeftRest e (none_if o d)
  none_left e d true h = tt
  none_left e d false h = h

  subtracted_left_rest : (op : DifferenceOperator) (l r : Tree S) (a b : Rest S) → LeftRest l a → LeftRest r b → LeftRest (Join (Without op) l r) (subtracted op a b)
  subtracted_left_rest op l r (Constant true) b h k = turned_right (Without op) l r b k
  subtracted_left_rest op l r (Constant false) b h k = tt
  subtracted_left_rest op l r (Reduced a) (Constant true) h k = tt
  subtracted_left_rest op l r (Reduced a) (Constant false) h k = of_join_left h
  subtracted_left_rest op l r (Reduced a) (Reduced b) h k = none_left (Join (Without op) l r) (Join (Without op) a b) (implies a b) (join h k)

  differing_left_rest : (op : SymmetricDifferenceOperator) (l r : Tree S) (a b : Rest S) → LeftRest l a → LeftRest r b → LeftRest (Join (ExactlyOne op) l r) (differing op a b)
  differing_left_rest op l r (Constant true) b h k = turned_right (ExactlyOne op) l r b k
  differing_left_rest op l r (Constant false) b h k = rest_map r (Join (ExactlyOne op) l r) b (λ x p. of_join_right p) k
  differing_left_rest op l r (Reduced a) (Constant true) h k = turned_left (ExactlyOne op) l r (Reduced a) h
  differing_left_rest op l r (Reduced a) (Constant false) h k = of_join_left h
  differing_left_rest op l r (Reduced a) (Reduced b) h k = none_left (Join (ExactlyOne op) l r) (Join (ExactlyOne op) a b) (alike a b) (join h k)

  pub reduced_left : (e : Tree S) → LeftRest e (reduced e)
  reduced_left (Not op e) = negated_left op e (reduced e) (reduced_left e)
  reduced_left (Union op l r) = united_left_rest op l r (reduced l) (reduced r) (reduced_left l) (reduced_left r)
  reduced_left (Join (Both op) l r) = intersected_left_rest op l r (reduced l) (reduced r) (reduced_left l) (reduced_left r)
  reduced_left (Join (Without op) l r) = subtracted_left_rest op l r (reduced l) (reduced r) (reduced_left l) (reduced_left r)
  reduced_left (Join (ExactlyOne op) l r) = differing_left_rest op l r (reduced l) (reduced r) (reduced_left l) (reduced_left r)
  reduced_left (Parens e) = rest_map e (Parens e) (reduced e) (λ x p. of_parens p) (reduced_left e)
  reduced_left (Set (Matching p m s)) = leaf
  reduced_left (Set (Platform p s)) = leaf
  reduced_left (Set (Default s)) = leaf
  reduced_left (Set tree.All) = tt
  reduced_left (Set tree.None) = tt

  -- ---- parentheses

  placed_left : {may : Type 0} {e d f : Tree S} → IsEnclosedUnless may d f → IsLeftOf e d → IsLeftOf e f
  placed_left (added.stands m) h = h
  placed_left (added.enclosed m) h = enclosed h

  pub parens_left : {e d f : Tree S} → IsLeftOf e d → IsWithParens d f → IsLeftOf e f
  parens_left leaf added.leaf = leaf
  parens_left (negation h) (added.negation p placed) = negation (placed_left placed (parens_left h p))
  parens_left (union h k) (added.union p q placed) = union (parens_left h p) (placed_left placed (parens_left k q))
  parens_left (join h k) (added.join p before q after) =
      join (placed_left before (parens_left h p)) (placed_left after (parens_left k q))
  parens_left (of_negation h) p = of_negation (parens_left h p)
  parens_left (of_union_left h) p = of_union_left (parens_left h p)
  parens_left (of_union_right h) p = of_union_right (parens_left h p)
  parens_left (of_join_left h) p = of_join_left (parens_left h p)
  parens_left (of_join_right h) p = of_join_right (parens_left h p)
  parens_left (left_negated h) (added.negation p placed) = left_negated (placed_left placed (parens_left h p))
  parens_left (right_negated h) (added.negation p placed) = right_negated (placed_left placed (parens_left h p))
  parens_left (of_parens h) p = of_parens (parens_left h p)
  parens_left (enclosed h) (added.parens p) = enclosed (parens_left h p)

  -- ---- predicates

  abbrev Formed : Leaf S → Type 0
  Formed l = IsWellFormedLeaf l

  pub left_formed : {e d : Tree S} → IsLeftOf e d → HasWellFormedLeaves e → HasWellFormedLeaves d
  left_formed leaf all = all
  left_formed (negation h) all = left_formed h all
  left_formed (union {op} {l} {r} {a} {b} h k) all =
      All-append Formed (tree_leaves a) (tree_leaves b) (left_formed h (both_all Formed (tree_leaves l) (tree_leaves r) all).0) (left_formed k (both_all Formed (tree_leaves l) (tree_leaves r) all).1)
  left_formed (join {op} {l} {r} {a} {b} h k) all =
      All-append Formed (tree_leaves a) (tree_leaves b) (left_formed h (both_all Formed (tree_leaves l) (tree_leaves r) all).0) (left_formed k (both_all Formed (tree_leaves l) (tree_leaves r) all).1)
  left_formed (of_negation h) all = left_formed h all
  left_formed (of_union_left {op} {l} {r} {d} h) all = left_formed h (both_all Formed (tree_leaves l) (tree_leaves r) all).0
  left_formed (of_union_right {op} {l} {r} {d} h) all = left_formed h (both_all Formed (tree_leaves l) (tree_leaves r) all).1
  left_formed (of_join_left {op} {l} {r} {d} h) all = left_formed h (both_all Formed (tree_leaves l) (tree_leaves r) all).0
  left_formed (of_join_right {op} {l} {r} {d} h) all = left_formed h (both_all Formed (tree_leaves l) (tree_leaves r) all).1
  left_formed (left_negated {op} {l} {r} {d} h) all = left_formed h (both_all Formed (tree_leaves l) (tree_leaves r) all).0
  left_formed (right_negated {op} {l} {r} {d} h) all = left_formed h (both_all Formed (tree_leaves l) (tree_leaves r) all).1
  left_formed (of_parens h) all = left_formed h all
  left_formed (enclosed h) all = left_formed h all
