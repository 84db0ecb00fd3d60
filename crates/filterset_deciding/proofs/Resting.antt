-- What is left of a tree takes no value that the tree does not take.
use Rattle.std.proofs.Common.{◌≡◌, ◌↔◌, Bool, true, false, refl, sym, ◌∙◌, ap, subst, arith}
use Rattle.std.specs.Prelude.{◌&&◌, ◌||◌, not, Option, Some, None}
use Rattle.std.proofs.Math.Bool.{and-false, and-true, and_comm, not-not, or-false, or-true, or_comm}
use Rattle.std.proofs.lemmas.Bool.Decides.{nat_tests}
use Rattle.filterset_expression.specs.Connectives.{exclusive_or}
use Rattle.filterset_grammar.specs.Tree as tree
use Rattle.filterset_grammar.specs.Tree.{Leaf, Matching, Platform, Default, Tree, Not, Union, Join, Parens, Set}
use Rattle.filterset_grammar.specs.declared.operators.Joiner.TheVariants.{Both, Without, ExactlyOne}
use Rattle.filterset_grammar.specs.declared.operators.{AndOperator.AndOperator, DifferenceOperator.DifferenceOperator}
use Rattle.filterset_grammar.specs.declared.operators.NotOperator.{NotOperator, TheVariants.LiteralNot}
use Rattle.filterset_grammar.specs.declared.operators.OrOperator.{OrOperator}
use Rattle.filterset_grammar.specs.declared.operators.SymmetricDifferenceOperator.{SymmetricDifferenceOperator}
use Rattle.filterset_deciding.specs.Simplifying.Alike.{alike, alike_leaves}
use Rattle.filterset_deciding.specs.Simplifying.Implying.{implies, says_one_of, admits_fact_of}
use Rattle.filterset_deciding.specs.Simplifying.Reducing.{Rest, Constant, Reduced, constant, tree_of_rest, both_kept, kept_unless, kept_disjuncts, kept_conjuncts, negated, left_kept, right_kept, united, intersected, none_if, subtracted, differing, reduced}
use Rattle.filterset_deciding.proofs.Later.{Later, at_once, bind}
use Rattle.filterset_deciding.proofs.Taking.{Takes, takes_some, takes_alike, implies_true, one_of_false, fact_true}

-- ---- truth values

or_merged : (a b x y w : Bool) → (a || w) ≡ (x || w) → (b || w) ≡ (y || w) → ((a || b) || w) ≡ ((x || y) || w)
or_merged a b x y w e k = grind (arith, nat_tests)

and_merged : (a b x y w : Bool) → (a && w) ≡ (x && w) → (b && w) ≡ (y && w) → ((a && b) && w) ≡ ((x && y) && w)
and_merged a b x y w e k = grind (arith, nat_tests)

either_with_top : (v : Bool) → exclusive_or true (not v) ≡ v
either_with_top true = refl
either_with_top false = refl

top_with_either : (v : Bool) → exclusive_or (not v) true ≡ v
top_with_either true = refl
top_with_either false = refl

either_with_bottom : (v : Bool) → exclusive_or false v ≡ v
either_with_bottom true = refl
either_with_bottom false = refl

bottom_with_either : (v : Bool) → exclusive_or v false ≡ v
bottom_with_either true = refl
bottom_with_either false = refl

neither : (v : Bool) → exclusive_or v v ≡ false
neither true = refl
neither false = refl

-- ---- operands that are left out of unions and intersections, both at once

module _ {S : Type 0} (can : Leaf S → Bool → Type 0)
    (some : (leaf : Leaf S) → Later ((v : Bool) × can leaf v))
    (op : Bool → Bool → Bool) (unit : Bool)
    (turned : (x y : Bool) → op x y ≡ op y x)
    (with_unit : (x : Bool) → op unit x ≡ x)
    (merged : (a b x y w : Bool) → op a w ≡ op x w → op b w ≡ op y w → op (op a b) w ≡ op (op x y) w) where
  -- the value of what is kept of an operand
  abbrev TakesKept : Option (Tree S) → Bool → Type 0
  TakesKept None v = v ≡ unit
  TakesKept (Some e) v = Takes can e v

  -- beside the other operand, the operand makes the value that what is kept of it makes
  abbrev Keeps : Tree S → Tree S → Option (Tree S) → Type 0
  Keeps beside e kept =
      (v w : Bool) → TakesKept kept v → Takes can beside w
      → Later ((u : Bool) × Takes can e u × (op u w ≡ op v w))

  -- the node takes what the operator makes of the values of its operands
  abbrev IsNode : (Tree S → Tree S → Tree S) → Type 0
  IsNode node =
      ((l r : Tree S) (x y : Bool) → Takes can l x → Takes can r y → Takes can (node l r) (op x y))
      × ((l r : Tree S) (v : Bool) → Takes can (node l r) v → (x : Bool) × (y : Bool) × Takes can l x × Takes can r y × (op x y ≡ v))

  keeps_part : (beside e : Tree S) (out : Bool)
      → (out ≡ true → (w : Bool) → Takes can beside w → Later ((u : Bool) × Takes can e u × (op u w ≡ op unit w)))
      → Keeps beside e (kept_unless out e)
  keeps_part beside e true drops v w t other =
      bind (drops refl w other) (λ p. at_once (p.0, p.1, p.2 ∙ ap (λ z. op z w) (sym t)))
  keeps_part beside e false drops v w t other = at_once (v, t, refl)

  keeps_both : (node : Tree S → Tree S → Tree S) → IsNode node → (beside l r : Tree S) (a b : Option (Tree S))
      → Keeps beside l a → Keeps beside r b → Keeps beside (node l r) (both_kept node a b)
  keeps_both node is beside l r (Some a) (Some b) left right v w t other =
      let parts = is.1 a b v t in
      bind (left parts.0 w parts.2 other) (λ p. bind (right parts.1 w parts.3 other) (λ q.
      at_once (op p.0 q.0, is.0 l r p.0 q.0 p.1 q.1, merged p.0 q.0 parts.0 parts.1 w p.2 q.2 ∙ ap (λ z. op z w) parts.4)))
  keeps_both node is beside l r (Some a) None left right v w t other =
      bind (left v w t other) (λ p. bind (right unit w refl other) (λ q.
      at_once (op p.0 q.0, is.0 l r p.0 q.0 p.1 q.1, merged p.0 q.0 v unit w p.2 q.2 ∙ ap (λ z. op z w) (turned v unit ∙ with_unit v))))
  keeps_both node is beside l r None (Some b) left right v w t other =
      bind (left unit w refl other) (λ p. bind (right v w t other) (λ q.
      at_once (op p.0 q.0, is.0 l r p.0 q.0 p.1 q.1, merged p.0 q.0 unit v w p.2 q.2 ∙ ap (λ z. op z w) (with_unit v))))
  keeps_both node is beside l r None None left right v w t other =
      bind (left unit w refl other) (λ p. bind (right v w t other) (λ q.
      at_once (op p.0 q.0, is.0 l r p.0 q.0 p.1 q.1, merged p.0 q.0 unit v w p.2 q.2 ∙ ap (λ z. op z w) (with_unit v))))

  left_takes : (node : Tree S → Tree S → Tree S) → IsNode node → (l r kept : Tree S) (left : Option (Tree S))
      → Keeps l r (Some kept) → Keeps kept l left → (v : Bool)
      → Takes can (tree_of_rest (left_kept node kept left)) v → Later (Takes can (node l r) v)
  left_takes node is l r kept None right first v t =
      bind (first unit v refl t) (λ p. bind (right v p.0 t p.1) (λ q.
      at_once (subst (λ z. Takes can (node l r) z) (turned p.0 q.0 ∙ q.2 ∙ turned v p.0 ∙ p.2 ∙ with_unit v) (is.0 l r p.0 q.0 p.1 q.1))))
  left_takes node is l r kept (Some left) right first v t =
      let parts = is.1 left kept v t in
      bind (first parts.0 parts.1 parts.2 parts.3) (λ p. bind (right parts.1 p.0 parts.3 p.1) (λ q.
      at_once (subst (λ z. Takes can (node l r) z) (turned p.0 q.0 ∙ q.2 ∙ turned parts.1 p.0 ∙ p.2 ∙ parts.4) (is.0 l r p.0 q.0 p.1 q.1))))

  node_takes : (node : Tree S → Tree S → Tree S) → IsNode node → (l r : Tree S) (kept : Option (Tree S)) (keep : Tree S → Option (Tree S))
      → Keeps l r kept → ((beside : Tree S) → Keeps beside l (keep beside)) → (v : Bool)
      → Takes can (tree_of_rest (right_kept node keep l kept)) v → Later (Takes can (node l r) v)
  node_takes node is l r None keep right left v t =
      bind (right unit v refl t) (λ p.
      at_once (subst (λ z. Takes can (node l r) z) (turned v p.0 ∙ p.2 ∙ with_unit v) (is.0 l r v p.0 t p.1)))
  node_takes node is l r (Some kept) keep right left v t =
      left_takes node is l r kept (keep kept) right (left kept) v t

-- ---- all of a tree

module _ {S : Type 0} (can : Leaf S → Bool → Type 0)
    (some : (leaf : Leaf S) → Later ((v : Bool) × can leaf v))
    (alike_can : (l m : Leaf S) → alike_leaves l m ≡ true → (v : Bool) → can l v ↔ can m v)
    (all_can : (v : Bool) → can tree.All v ↔ (v ≡ true))
    (none_can : (v : Bool) → can tree.None v ↔ (v ≡ false)) where
  is_union : (op : OrOperator) → IsNode can some ◌||◌ false or_comm (λ x. refl) or_merged (Union op)
  is_union op = (λ l r x y p q. (x, y, p, q, refl), λ l r v t. t)

  is_intersection : (op : AndOperator) → IsNode can some ◌&&◌ true and_comm (λ x. refl) and_merged (Join (Both op))
  is_intersection op = (λ l r x y p q. (x, y, p, q, refl), λ l r v t. t)

  union_drops : (e beside : Tree S) → says_one_of e beside ≡ true → (w : Bool) → Takes can beside w
      → Later ((u : Bool) × Takes can e u × ((u || w) ≡ (false || w)))
  union_drops e beside h true t = bind (takes_some can some alike_can e) (λ p. at_once (p.0, p.1, or-true p.0))
  union_drops e beside h false t = bind (one_of_false can some alike_can e beside h t) (λ p. at_once (false, p, refl))

  intersection_drops : (e beside : Tree S) → admits_fact_of e beside ≡ true → (w : Bool) → Takes can beside w
      → Later ((u : Bool) × Takes can e u × ((u && w) ≡ (true && w)))
  intersection_drops e beside h true t = bind (fact_true can some alike_can e beside h t) (λ p. at_once (true, p, refl))
  intersection_drops e beside h false t = bind (takes_some can some alike_can e) (λ p. at_once (p.0, p.1, and-false p.0))

  disjuncts_keep : (beside e : Tree S) → Keeps can some ◌||◌ false or_comm (λ x. refl) or_merged beside e (kept_disjuncts beside e)
  disjuncts_keep beside (Union op l r) =
      keeps_both can some ◌||◌ false or_comm (λ x. refl) or_merged (Union op) (is_union op) beside l r (kept_disjuncts beside l) (kept_disjuncts beside r) (disjuncts_keep beside l) (disjuncts_keep beside r)
  disjuncts_keep beside (Not op a) =
      keeps_part can some ◌||◌ false or_comm (λ x. refl) or_merged beside (Not op a) (says_one_of (Not op a) beside) (union_drops (Not op a) beside)
  disjuncts_keep beside (Join op l r) =
      keeps_part can some ◌||◌ false or_comm (λ x. refl) or_merged beside (Join op l r) (says_one_of (Join op l r) beside) (union_drops (Join op l r) beside)
  disjuncts_keep beside (Parens a) =
      keeps_part can some ◌||◌ false or_comm (λ x. refl) or_merged beside (Parens a) (says_one_of (Parens a) beside) (union_drops (Parens a) beside)
  disjuncts_keep beside (Set leaf) =
      keeps_part can some ◌||◌ false or_comm (λ x. refl) or_merged beside (Set leaf) (says_one_of (Set leaf) beside) (union_drops (Set leaf) beside)

  conjuncts_keep : (beside e : Tree S) → Keeps can some ◌&&◌ true and_comm (λ x. refl) and_merged beside e (kept_conjuncts beside e)
  conjuncts_keep beside (Join (Both op) l r) =
      keeps_both can some ◌&&◌ true and_comm (λ x. refl) and_merged (Join (Both op)) (is_intersection op) beside l r (kept_conjuncts beside l) (kept_conjuncts beside r) (conjuncts_keep beside l) (conjuncts_keep beside r)
  conjuncts_keep beside (Join (Without op) l r) =
      keeps_part can some ◌&&◌ true and_comm (λ x. refl) and_merged beside (Join (Without op) l r) (admits_fact_of (Join (Without op) l r) beside) (intersection_drops (Join (Without op) l r) beside)
  conjuncts_keep beside (Join (ExactlyOne op) l r) =
      keeps_part can some ◌&&◌ true and_comm (λ x. refl) and_merged beside (Join (ExactlyOne op) l r) (admits_fact_of (Join (ExactlyOne op) l r) beside) (intersection_drops (Join (ExactlyOne op) l r) beside)
  conjuncts_keep beside (Not op a) =
      keeps_part can some ◌&&◌ true and_comm (λ x. refl) and_merged beside (Not op a) (admits_fact_of (Not op a) beside) (intersection_drops (Not op a) beside)
  conjuncts_keep beside (Union op l r) =
      keeps_part can some ◌&&◌ true and_comm (λ x. refl) and_merged beside (Union op l r) (admits_fact_of (Union op l r) beside) (intersection_drops (Union op l r) beside)
  conjuncts_keep beside (Parens a) =
      keeps_part can some ◌&&◌ true and_comm (λ x. refl) and_merged beside (Parens a) (admits_fact_of (Parens a) beside) (intersection_drops (Parens a) beside)
  conjuncts_keep beside (Set leaf) =
      keeps_part can some ◌&&◌ true and_comm (λ x. refl) and_merged beside (Set leaf) (admits_fact_of (Set leaf) beside) (intersection_drops (Set leaf) beside)

  -- ---- constants

  constant_takes : (b v : Bool) → Takes can (constant b) v ↔ (v ≡ b)
  constant_takes true v = all_can v
  constant_takes false v = none_can v

  negated_takes : (op : NotOperator) (e : Rest S) (v : Bool) → Takes can (tree_of_rest (negated op e)) v → Takes can (tree_of_rest e) (not v)
  negated_takes op (Constant b) v t =
      (constant_takes b (not v)).1 (ap not ((constant_takes (not b) v).0 t) ∙ not-not b)
  negated_takes op (Reduced (Not other e)) v t = subst (λ z. Takes can e z) (sym (not-not v)) t
  negated_takes op (Reduced (Union other l r)) v t = t
  negated_takes op (Reduced (Join other l r)) v t = t
  negated_takes op (Reduced (Parens e)) v t = t
  negated_takes op (Reduced (Set leaf)) v t = t

  united_takes : (op : OrOperator) (l r : Rest S) (v : Bool) → Takes can (tree_of_rest (united op l r)) v
      → Later (Takes can (Union op (tree_of_rest l) (tree_of_rest r)) v)
  united_takes op (Constant true) r v t =
      bind (takes_some can some alike_can (tree_of_rest r)) (λ b. at_once (true, b.0, (all_can true).1 refl, b.1, sym ((all_can v).0 t)))
  united_takes op (Constant false) r v t = at_once (false, v, (none_can false).1 refl, t, refl)
  united_takes op (Reduced l) (Constant true) v t =
      bind (takes_some can some alike_can l) (λ a. at_once (a.0, true, a.1, (all_can true).1 refl, or-true a.0 ∙ sym ((all_can v).0 t)))
  united_takes op (Reduced l) (Constant false) v t = at_once (v, false, t, (none_can false).1 refl, or-false v)
  united_takes op (Reduced l) (Reduced r) v t =
      node_takes can some ◌||◌ false or_comm (λ x. refl) or_merged (Union op) (is_union op) l r (kept_disjuncts l r) (λ beside. kept_disjuncts beside l) (disjuncts_keep l r) (λ beside. disjuncts_keep beside l) v t

  intersected_takes : (op : AndOperator) (l r : Rest S) (v : Bool) → Takes can (tree_of_rest (intersected op l r)) v
      → Later (Takes can (Join (Both op) (tree_of_rest l) (tree_of_rest r)) v)
  intersected_takes op (Constant true) r v t = at_once (true, v, (all_can true).1 refl, t, refl)
  intersected_takes op (Constant false) r v t =
      bind (takes_some can some alike_can (tree_of_rest r)) (λ b. at_once (false, b.0, (none_can false).1 refl, b.1, sym ((none_can v).0 t)))
  intersected_takes op (Reduced l) (Constant true) v t = at_once (v, true, t, (all_can true).1 refl, and-true v)
  intersected_takes op (Reduced l) (Constant false) v t =
      bind (takes_some can some alike_can l) (λ a. at_once (a.0, false, a.1, (none_can false).1 refl, and-false a.0 ∙ sym ((none_can v).0 t)))
  intersected_takes op (Reduced l) (Reduced r) v t =
      node_takes can some ◌&&◌ true and_comm (λ x. refl) and_merged (Join (Both op)) (is_intersection op) l r (kept_conjuncts l r) (λ beside. kept_conjuncts beside l) (conjuncts_keep l r) (λ beside. conjuncts_keep beside l) v t

  never_both : (op : DifferenceOperator) (l r : Tree S) → implies l r ≡ true → (x : Bool) → Takes can l x
      → Later (Takes can (Join (Without op) l r) false)
  never_both op l r h true t = bind (implies_true can some alike_can l r h t) (λ b. at_once (true, true, t, b, refl))
  never_both op l r h false t = bind (takes_some can some alike_can r) (λ b. at_once (false, b.0, t, b.1, refl))

  difference_takes : (op : DifferenceOperator) (l r : Tree S) (out : Bool) → implies l r ≡ out → (v : Bool)
      → Takes can (tree_of_rest (none_if out (Join (Without op) l r))) v → Later (Takes can (Join (Without op) l r) v)
  difference_takes op l r true h v t =
      bind (takes_some can some alike_can l) (λ a. bind (never_both op l r h a.0 a.1) (λ b.
      at_once (subst (λ z. Takes can (Join (Without op) l r) z) (sym ((none_can v).0 t)) b)))
  difference_takes op l r false h v t = at_once t

  subtracted_takes : (op : DifferenceOperator) (l r : Rest S) (v : Bool) → Takes can (tree_of_rest (subtracted op l r)) v
      → Later (Takes can (Join (Without op) (tree_of_rest l) (tree_of_rest r)) v)
  subtracted_takes op (Constant true) r v t =
      at_once (true, not v, (all_can true).1 refl, negated_takes LiteralNot r v t, not-not v)
  subtracted_takes op (Constant false) r v t =
      bind (takes_some can some alike_can (tree_of_rest r)) (λ b. at_once (false, b.0, (none_can false).1 refl, b.1, sym ((none_can v).0 t)))
  subtracted_takes op (Reduced l) (Constant true) v t =
      bind (takes_some can some alike_can l) (λ a. at_once (a.0, true, a.1, (all_can true).1 refl, and-false a.0 ∙ sym ((none_can v).0 t)))
  subtracted_takes op (Reduced l) (Constant false) v t = at_once (v, false, t, (none_can false).1 refl, and-true v)
  subtracted_takes op (Reduced l) (Reduced r) v t = difference_takes op l r (implies l r) refl v t

  symmetric_takes : (op : SymmetricDifferenceOperator) (l r : Tree S) (out : Bool) → alike l r ≡ out → (v : Bool)
      → Takes can (tree_of_rest (none_if out (Join (ExactlyOne op) l r))) v → Later (Takes can (Join (ExactlyOne op) l r) v)
  symmetric_takes op l r true h v t =
      bind (takes_some can some alike_can l) (λ a.
      at_once (a.0, a.0, a.1, (takes_alike can some alike_can l r h a.0).0 a.1, neither a.0 ∙ sym ((none_can v).0 t)))
  symmetric_takes op l r false h v t = at_once t

  differing_takes : (op : SymmetricDifferenceOperator) (l r : Rest S) (v : Bool) → Takes can (tree_of_rest (differing op l r)) v
      → Later (Takes can (Join (ExactlyOne op) (tree_of_rest l) (tree_of_rest r)) v)
  differing_takes op (Constant true) r v t =
      at_once (true, not v, (all_can true).1 refl, negated_takes LiteralNot r v t, either_with_top v)
  differing_takes op (Constant false) r v t = at_once (false, v, (none_can false).1 refl, t, either_with_bottom v)
  differing_takes op (Reduced l) (Constant true) v t =
      at_once (not v, true, negated_takes LiteralNot (Reduced l) v t, (all_can true).1 refl, top_with_either v)
  differing_takes op (Reduced l) (Constant false) v t = at_once (v, false, t, (none_can false).1 refl, bottom_with_either v)
  differing_takes op (Reduced l) (Reduced r) v t = symmetric_takes op l r (alike l r) refl v t

  -- ---- the whole

  pub reduced_takes : (e : Tree S) (v : Bool) → Takes can (tree_of_rest (reduced e)) v → Later (Takes can e v)
  reduced_takes (Not op e) v t = reduced_takes e (not v) (negated_takes op (reduced e) v t)
  reduced_takes (Union op l r) v t =
      bind (united_takes op (reduced l) (reduced r) v t) (λ u. bind (reduced_takes l u.0 u.2) (λ a. bind (reduced_takes r u.1 u.3) (λ b. at_once (u.0, u.1, a, b, u.4))))
  reduced_takes (Join (Both op) l r) v t =
      bind (intersected_takes op (reduced l) (reduced r) v t) (λ u. bind (reduced_takes l u.0 u.2) (λ a. bind (reduced_takes r u.1 u.3) (λ b. at_once (u.0, u.1, a, b, u.4))))
  reduced_takes (Join (Without op) l r) v t =
      bind (subtracted_takes op (reduced l) (reduced r) v t) (λ u. bind (reduced_takes l u.0 u.2) (λ a. bind (reduced_takes r u.1 u.3) (λ b. at_once (u.0, u.1, a, b, u.4))))
  reduced_takes (Join (ExactlyOne op) l r) v t =
      bind (differing_takes op (reduced l) (reduced r) v t) (λ u. bind (reduced_takes l u.0 u.2) (λ a. bind (reduced_takes r u.1 u.3) (λ b. at_once (u.0, u.1, a, b, u.4))))
  reduced_takes (Parens e) v t = reduced_takes e v t
  reduced_takes (Set (Matching p m s)) v t = at_once t
  reduced_takes (Set (Platform p s)) v t = at_once t
  reduced_takes (Set (Default s)) v t = at_once t
  reduced_takes (Set tree.All) v t = at_once t
  reduced_takes (Set tree.None) v t = at_once t
