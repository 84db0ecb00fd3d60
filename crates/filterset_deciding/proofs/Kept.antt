-- What is left of a tree has nothing to leave out, and a tree that has nothing to leave out is left as it is.
use Rattle.std.proofs.Common.{◌≡◌, ◌⊎◌, ℕ, zero, suc, ◌<◌, Bool, true, false, List, [], ◌∷◌, ◌++◌, length, get_or, refl, sym, ◌∙◌, ap, subst, arith, inl, inr, ⊎_elim}
use Rattle.std.specs.Prelude.{◌||◌, Contains, Option, Some, None}
use Rattle.std.proofs.lemmas.Bool.{or_from as or_none, or_parts}
use Rattle.std.proofs.lemmas.List.Elements.{Contains-append_left, Contains-append_right, Contains-append_cases}
use Rattle.filterset_grammar.specs.AddedParens.{IsEnclosedUnless, stands, enclosed, IsWithParens, negation, union, join, parens, leaf}
use Rattle.filterset_grammar.specs.Tree.{Matching, Platform, Default, Tree, Not, Union, Join, Parens, Set}
use Rattle.filterset_grammar.specs.declared.operators.Joiner.TheVariants.{Both, Without, ExactlyOne}
use Rattle.filterset_grammar.specs.declared.operators.{AndOperator.AndOperator, DifferenceOperator.DifferenceOperator}
use Rattle.filterset_grammar.specs.declared.operators.{NotOperator.NotOperator, OrOperator.OrOperator}
use Rattle.filterset_grammar.specs.declared.operators.SymmetricDifferenceOperator.{SymmetricDifferenceOperator}
use Rattle.filterset_grammar.specs.declared.operators.NotOperator.TheVariants.{LiteralNot}
use Rattle.filterset_grammar.specs.Tree as tree
use Rattle.filterset_deciding.specs.Simplifying.Alike.{alike}
use Rattle.filterset_deciding.specs.Simplifying.Implying.{disjuncts, conjuncts, facts, says, admits, implies, says_one_of, admits_fact_of}
use Rattle.filterset_deciding.specs.Simplifying.Reducing.{Rest, Constant, Reduced, both_kept, kept_unless, kept_disjuncts, kept_conjuncts, negated_tree, negated, left_kept, right_kept, united_trees, united, intersected_trees, intersected, none_if, subtracted, differing, reduced}
use Rattle.filterset_deciding.specs.Simplifying.Simple.{IsNegation, AreApartInUnion, AreApartInIntersection, IsReduced}

-- ---- elements of lists

first : {X : Type 0} (x : X) (xs : List X) → Contains (x ∷ xs) x
first x xs = (zero, omega arith, refl)

behind : {X : Type 0} (head x : X) (xs : List X) → Contains xs x → Contains (head ∷ xs) x
behind head x xs p = (suc p.0, omega (arith, p.1), p.2)

by_index : {X : Type 0} (head x : X) (xs : List X) (k : ℕ) → k < suc (length xs) → get_or (head ∷ xs) k x ≡ x → (head ≡ x) ⊎ Contains xs x
by_index head x xs zero h e = inl e
by_index head x xs (suc k) h e = inr (k, omega (arith, h), e)

first_or_behind : {X : Type 0} (head x : X) (xs : List X) → Contains (head ∷ xs) x → (head ≡ x) ⊎ Contains xs x
first_or_behind head x xs p = by_index head x xs p.0 p.1 p.2

not_in_nothing : {X : Type 0} (x : X) → Contains [] x → ⊥
not_in_nothing x p = omega (arith, p.1)

only : {X : Type 0} (one x : X) → Contains (one ∷ []) x → one ≡ x
only one x p = ⊎_elim (λ e. e) (λ none. absurd (not_in_nothing x none)) (first_or_behind one x [] p)

-- ---- what is kept

abbrev pub IfKept : {S : Type 0} → Option (Tree S) → (Tree S → Type 0) → Type 0
IfKept None P = Unit {0}
IfKept (Some e) P = P e

-- of a chain the operands that are not out are kept
module _ {S : Type 0} (chain : Tree S → List (Tree S)) (out : Tree S → Bool) where
  abbrev IsKept : Tree S → Tree S → Type 0
  IsKept e k = (x : Tree S) → Contains (chain k) x → Contains (chain e) x × (out x ≡ false)

  abbrev AllStay : Tree S → Type 0
  AllStay e = (x : Tree S) → Contains (chain e) x → out x ≡ false

  abbrev IsNode : (Tree S → Tree S → Tree S) → Type 0
  IsNode node = (a b : Tree S) → chain (node a b) ≡ chain a ++ chain b

  in_left : (node : Tree S → Tree S → Tree S) → IsNode node → (l r x : Tree S) → Contains (chain l) x → Contains (chain (node l r)) x
  in_left node is l r x c =
      subst (λ xs. Contains xs x) (sym (is l r)) (Contains-append_left (chain l) (chain r) x c)

  in_right : (node : Tree S → Tree S → Tree S) → IsNode node → (l r x : Tree S) → Contains (chain r) x → Contains (chain (node l r)) x
  in_right node is l r x c =
      subst (λ xs. Contains xs x) (sym (is l r)) (Contains-append_right (chain l) (chain r) x c)

  in_either : (node : Tree S → Tree S → Tree S) → IsNode node → (l r x : Tree S) → Contains (chain (node l r)) x → Contains (chain l) x ⊎ Contains (chain r) x
  in_either node is l r x c = Contains-append_cases (chain l) (chain r) x (subst (λ xs. Contains xs x) (is l r) c)

  kept_part : (e : Tree S) → chain e ≡ e ∷ [] → (o : Bool) → out e ≡ o → IfKept (kept_unless o e) (IsKept e)
  kept_part e is true h = tt
  kept_part e is false h = λ x c. (c, subst (λ z. out z ≡ false) (only e x (subst (λ xs. Contains xs x) is c)) h)

  kept_both : (node : Tree S → Tree S → Tree S) → IsNode node → (l r : Tree S) (a b : Option (Tree S))
      → IfKept a (IsKept l) → IfKept b (IsKept r) → IfKept (both_kept node a b) (IsKept (node l r))
  kept_both node is l r (Some a) (Some b) left right = λ x c.
      ⊎_elim (λ p. (in_left node is l r x (left x p).0, (left x p).1)) (λ p. (in_right node is l r x (right x p).0, (right x p).1)) (in_either node is a b x c)
  kept_both node is l r (Some a) None left right = λ x c. (in_left node is l r x (left x c).0, (left x c).1)
  kept_both node is l r None (Some b) left right = λ x c. (in_right node is l r x (right x c).0, (right x c).1)
  kept_both node is l r None None left right = tt

  same_part : (e : Tree S) → chain e ≡ e ∷ [] → AllStay e → kept_unless (out e) e ≡ Some e
  same_part e is stay = ap (λ o. kept_unless o e) (stay e (subst (λ xs. Contains xs e) (sym is) (first e [])))

  same_both : (node : Tree S → Tree S → Tree S) (l r : Tree S) (a b : Option (Tree S)) → a ≡ Some l → b ≡ Some r → both_kept node a b ≡ Some (node l r)
  same_both node l r a b e k = ap (λ o. both_kept node o b) e ∙ ap (both_kept node (Some l)) k

module _ {S : Type 0} where
  -- ---- the parts of unions

  none_said : (e other y : Tree S) → says_one_of e other ≡ false → Contains (disjuncts other) y → says e y ≡ false
  none_said e (Union op l r) y h c =
      let parts = or_parts (says_one_of e l) (says_one_of e r) h in
      ⊎_elim (λ p. none_said e l y parts.0 p) (λ p. none_said e r y parts.1 p) (Contains-append_cases (disjuncts l) (disjuncts r) y c)
  none_said e (Not op a) y h c = subst (λ z. says e z ≡ false) (only (Not op a) y c) h
  none_said e (Join op l r) y h c = subst (λ z. says e z ≡ false) (only (Join op l r) y c) h
  none_said e (Parens a) y h c = subst (λ z. says e z ≡ false) (only (Parens a) y c) h
  none_said e (Set l) y h c = subst (λ z. says e z ≡ false) (only (Set l) y c) h

  says_none : (e other : Tree S) → ((y : Tree S) → Contains (disjuncts other) y → says e y ≡ false) → says_one_of e other ≡ false
  says_none e (Union op l r) h =
      or_none (says_one_of e l) (says_one_of e r) (says_none e l (λ y c. h y (Contains-append_left (disjuncts l) (disjuncts r) y c))) (says_none e r (λ y c. h y (Contains-append_right (disjuncts l) (disjuncts r) y c)))
  says_none e (Not op a) h = h (Not op a) (first (Not op a) [])
  says_none e (Join op l r) h = h (Join op l r) (first (Join op l r) [])
  says_none e (Parens a) h = h (Parens a) (first (Parens a) [])
  says_none e (Set l) h = h (Set l) (first (Set l) [])

  abbrev IsKeptDisjunct : Tree S → Tree S → Tree S → Type 0
  IsKeptDisjunct beside = IsKept disjuncts (λ x. says_one_of x beside)

  disjuncts_kept : (beside e : Tree S) → IfKept (kept_disjuncts beside e) (IsKeptDisjunct beside e)
  disjuncts_kept beside (Union op l r) =
      kept_both disjuncts (λ x. says_one_of x beside) (Union op) (λ a b. refl) l r (kept_disjuncts beside l) (kept_disjuncts beside r) (disjuncts_kept beside l) (disjuncts_kept beside r)
  disjuncts_kept beside (Not op a) = kept_part disjuncts (λ x. says_one_of x beside) (Not op a) refl (says_one_of (Not op a) beside) refl
  disjuncts_kept beside (Join op l r) = kept_part disjuncts (λ x. says_one_of x beside) (Join op l r) refl (says_one_of (Join op l r) beside) refl
  disjuncts_kept beside (Parens a) = kept_part disjuncts (λ x. says_one_of x beside) (Parens a) refl (says_one_of (Parens a) beside) refl
  disjuncts_kept beside (Set l) = kept_part disjuncts (λ x. says_one_of x beside) (Set l) refl (says_one_of (Set l) beside) refl

  disjuncts_stay : (beside e : Tree S) → AllStay disjuncts (λ x. says_one_of x beside) e → kept_disjuncts beside e ≡ Some e
  disjuncts_stay beside (Union op l r) stay =
      same_both disjuncts (λ x. says_one_of x beside) (Union op) l r (kept_disjuncts beside l) (kept_disjuncts beside r) (disjuncts_stay beside l (λ x c. stay x (Contains-append_left (disjuncts l) (disjuncts r) x c))) (disjuncts_stay beside r (λ x c. stay x (Contains-append_right (disjuncts l) (disjuncts r) x c)))
  disjuncts_stay beside (Not op a) stay = same_part disjuncts (λ x. says_one_of x beside) (Not op a) refl stay
  disjuncts_stay beside (Join op l r) stay = same_part disjuncts (λ x. says_one_of x beside) (Join op l r) refl stay
  disjuncts_stay beside (Parens a) stay = same_part disjuncts (λ x. says_one_of x beside) (Parens a) refl stay
  disjuncts_stay beside (Set l) stay = same_part disjuncts (λ x. says_one_of x beside) (Set l) refl stay

  -- ---- the parts of intersections

  none_admitted : (e other y : Tree S) → admits_fact_of e other ≡ false → Contains (facts other) y → admits e y ≡ false
  none_admitted e (Join (Both op) l r) y h c =
      let parts = or_parts (admits_fact_of e l) (admits_fact_of e r) h in
      ⊎_elim (λ p. none_admitted e l y parts.0 p) (λ p. none_admitted e r y parts.1 p) (Contains-append_cases (facts l) (facts r) y c)
  none_admitted e (Join (Without op) l r) y h c =
      let parts = or_parts (admits e (Join (Without op) l r)) (admits_fact_of e l) h in
      ⊎_elim (λ same. subst (λ z. admits e z ≡ false) same parts.0) (λ p. none_admitted e l y parts.1 p) (first_or_behind (Join (Without op) l r) y (facts l) c)
  none_admitted e (Join (ExactlyOne op) l r) y h c = subst (λ z. admits e z ≡ false) (only (Join (ExactlyOne op) l r) y c) h
  none_admitted e (Not op a) y h c = subst (λ z. admits e z ≡ false) (only (Not op a) y c) h
  none_admitted e (Union op l r) y h c = subst (λ z. admits e z ≡ false) (only (Union op l r) y c) h
  none_admitted e (Parens a) y h c = subst (λ z. admits e z ≡ false) (only (Parens a) y c) h
  none_admitted e (Set l) y h c = subst (λ z. admits e z ≡ false) (only (Set l) y c) h

  admits_none : (e other : Tree S) → ((y : Tree S) → Contains (facts other) y → admits e y ≡ false) → admits_fact_of e other ≡ false
  admits_none e (Join (Both op) l r) h =
      or_none (admits_fact_of e l) (admits_fact_of e r) (admits_none e l (λ y c. h y (Contains-append_left (facts l) (facts r) y c))) (admits_none e r (λ y c. h y (Contains-append_right (facts l) (facts r) y c)))
  admits_none e (Join (Without op) l r) h =
      or_none (admits e (Join (Without op) l r)) (admits_fact_of e l) (h (Join (Without op) l r) (first (Join (Without op) l r) (facts l))) (admits_none e l (λ y c. h y (behind (Join (Without op) l r) y (facts l) c)))
  admits_none e (Join (ExactlyOne op) l r) h = h (Join (ExactlyOne op) l r) (first (Join (ExactlyOne op) l r) [])
  admits_none e (Not op a) h = h (Not op a) (first (Not op a) [])
  admits_none e (Union op l r) h = h (Union op l r) (first (Union op l r) [])
  admits_none e (Parens a) h = h (Parens a) (first (Parens a) [])
  admits_none e (Set l) h = h (Set l) (first (Set l) [])

  abbrev IsKeptConjunct : Tree S → Tree S → Tree S → Type 0
  IsKeptConjunct beside = IsKept conjuncts (λ x. admits_fact_of x beside)

  conjuncts_kept : (beside e : Tree S) → IfKept (kept_conjuncts beside e) (IsKeptConjunct beside e)
  conjuncts_kept beside (Join (Both op) l r) =
      kept_both conjuncts (λ x. admits_fact_of x beside) (Join (Both op)) (λ a b. refl) l r (kept_conjuncts beside l) (kept_conjuncts beside r) (conjuncts_kept beside l) (conjuncts_kept beside r)
  conjuncts_kept beside (Join (Without op) l r) = kept_part conjuncts (λ x. admits_fact_of x beside) (Join (Without op) l r) refl (admits_fact_of (Join (Without op) l r) beside) refl
  conjuncts_kept beside (Join (ExactlyOne op) l r) = kept_part conjuncts (λ x. admits_fact_of x beside) (Join (ExactlyOne op) l r) refl (admits_fact_of (Join (ExactlyOne op) l r) beside) refl
  conjuncts_kept beside (Not op a) = kept_part conjuncts (λ x. admits_fact_of x beside) (Not op a) refl (admits_fact_of (Not op a) beside) refl
  conjuncts_kept beside (Union op l r) = kept_part conjuncts (λ x. admits_fact_of x beside) (Union op l r) refl (admits_fact_of (Union op l r) beside) refl
  conjuncts_kept beside (Parens a) = kept_part conjuncts (λ x. admits_fact_of x beside) (Parens a) refl (admits_fact_of (Parens a) beside) refl
  conjuncts_kept beside (Set l) = kept_part conjuncts (λ x. admits_fact_of x beside) (Set l) refl (admits_fact_of (Set l) beside) refl

  conjuncts_stay : (beside e : Tree S) → AllStay conjuncts (λ x. admits_fact_of x beside) e → kept_conjuncts beside e ≡ Some e
  conjuncts_stay beside (Join (Both op) l r) stay =
      same_both conjuncts (λ x. admits_fact_of x beside) (Join (Both op)) l r (kept_conjuncts beside l) (kept_conjuncts beside r) (conjuncts_stay beside l (λ x c. stay x (Contains-append_left (conjuncts l) (conjuncts r) x c))) (conjuncts_stay beside r (λ x c. stay x (Contains-append_right (conjuncts l) (conjuncts r) x c)))
  conjuncts_stay beside (Join (Without op) l r) stay = same_part conjuncts (λ x. admits_fact_of x beside) (Join (Without op) l r) refl stay
  conjuncts_stay beside (Join (ExactlyOne op) l r) stay = same_part conjuncts (λ x. admits_fact_of x beside) (Join (ExactlyOne op) l r) refl stay
  conjuncts_stay beside (Not op a) stay = same_part conjuncts (λ x. admits_fact_of x beside) (Not op a) refl stay
  conjuncts_stay beside (Union op l r) stay = same_part conjuncts (λ x. admits_fact_of x beside) (Union op l r) refl stay
  conjuncts_stay beside (Parens a) stay = same_part conjuncts (λ x. admits_fact_of x beside) (Parens a) refl stay
  conjuncts_stay beside (Set l) stay = same_part conjuncts (λ x. admits_fact_of x beside) (Set l) refl stay

  -- the facts of what is kept are facts of the tree
  abbrev HasFactsOf : Tree S → Tree S → Type 0
  HasFactsOf e k = (x : Tree S) → Contains (facts k) x → Contains (facts e) x

  facts_part : (e : Tree S) (o : Bool) → IfKept (kept_unless o e) (HasFactsOf e)
  facts_part e true = tt
  facts_part e false = λ x c. c

  facts_both : (op : AndOperator) (l r : Tree S) (a b : Option (Tree S)) → IfKept a (HasFactsOf l) → IfKept b (HasFactsOf r)
      → IfKept (both_kept (Join (Both op)) a b) (HasFactsOf (Join (Both op) l r))
  facts_both op l r (Some a) (Some b) left right = λ x c.
      ⊎_elim (λ p. Contains-append_left (facts l) (facts r) x (left x p)) (λ p. Contains-append_right (facts l) (facts r) x (right x p)) (Contains-append_cases (facts a) (facts b) x c)
  facts_both op l r (Some a) None left right = λ x c. Contains-append_left (facts l) (facts r) x (left x c)
  facts_both op l r None (Some b) left right = λ x c. Contains-append_right (facts l) (facts r) x (right x c)
  facts_both op l r None None left right = tt

  facts_kept : (beside e : Tree S) → IfKept (kept_conjuncts beside e) (HasFactsOf e)
  facts_kept beside (Join (Both op) l r) =
      facts_both op l r (kept_conjuncts beside l) (kept_conjuncts beside r) (facts_kept beside l) (facts_kept beside r)
  facts_kept beside (Join (Without op) l r) = facts_part (Join (Without op) l r) (admits_fact_of (Join (Without op) l r) beside)
  facts_kept beside (Join (ExactlyOne op) l r) = facts_part (Join (ExactlyOne op) l r) (admits_fact_of (Join (ExactlyOne op) l r) beside)
  facts_kept beside (Not op a) = facts_part (Not op a) (admits_fact_of (Not op a) beside)
  facts_kept beside (Union op l r) = facts_part (Union op l r) (admits_fact_of (Union op l r) beside)
  facts_kept beside (Parens a) = facts_part (Parens a) (admits_fact_of (Parens a) beside)
  facts_kept beside (Set l) = facts_part (Set l) (admits_fact_of (Set l) beside)

  -- ---- what is kept of a reduced tree is reduced

  part_reduced : (e : Tree S) (o : Bool) → IsReduced e → IfKept (kept_unless o e) IsReduced
  part_reduced e true h = tt
  part_reduced e false h = h

  union_reduced : (op : OrOperator) (beside l r : Tree S) (a b : Option (Tree S)) → AreApartInUnion l r
      → IfKept a (IsKeptDisjunct beside l) → IfKept b (IsKeptDisjunct beside r) → IfKept a IsReduced → IfKept b IsReduced
      → IfKept (both_kept (Union op) a b) IsReduced
  union_reduced op beside l r (Some a) (Some b) apart left right h k =
      (λ x y p q. apart x y (left x p).0 (right y q).0, h, k)
  union_reduced op beside l r (Some a) None apart left right h k = h
  union_reduced op beside l r None (Some b) apart left right h k = k
  union_reduced op beside l r None None apart left right h k = tt

  disjuncts_reduced : (beside e : Tree S) → IsReduced e → IfKept (kept_disjuncts beside e) IsReduced
  disjuncts_reduced beside (Union op l r) h =
      union_reduced op beside l r (kept_disjuncts beside l) (kept_disjuncts beside r) h.0 (disjuncts_kept beside l) (disjuncts_kept beside r) (disjuncts_reduced beside l h.1) (disjuncts_reduced beside r h.2)
  disjuncts_reduced beside (Not op a) h = part_reduced (Not op a) (says_one_of (Not op a) beside) h
  disjuncts_reduced beside (Join op l r) h = part_reduced (Join op l r) (says_one_of (Join op l r) beside) h
  disjuncts_reduced beside (Parens a) h = part_reduced (Parens a) (says_one_of (Parens a) beside) h
  disjuncts_reduced beside (Set l) h = part_reduced (Set l) (says_one_of (Set l) beside) h

  intersection_reduced : (op : AndOperator) (beside l r : Tree S) (a b : Option (Tree S)) → AreApartInIntersection l r
      → IfKept a (IsKeptConjunct beside l) → IfKept b (IsKeptConjunct beside r) → IfKept a (HasFactsOf l) → IfKept b (HasFactsOf r)
      → IfKept a IsReduced → IfKept b IsReduced → IfKept (both_kept (Join (Both op)) a b) IsReduced
  intersection_reduced op beside l r (Some a) (Some b) apart left right f g h k =
      ((λ x y p q. apart.0 x y (left x p).0 (g y q), λ x y p q. apart.1 x y (f x p) (right y q).0), h, k)
  intersection_reduced op beside l r (Some a) None apart left right f g h k = h
  intersection_reduced op beside l r None (Some b) apart left right f g h k = k
  intersection_reduced op beside l r None None apart left right f g h k = tt

  conjuncts_reduced : (beside e : Tree S) → IsReduced e → IfKept (kept_conjuncts beside e) IsReduced
  conjuncts_reduced beside (Join (Both op) l r) h =
      intersection_reduced op beside l r (kept_conjuncts beside l) (kept_conjuncts beside r) h.0 (conjuncts_kept beside l) (conjuncts_kept beside r) (facts_kept beside l) (facts_kept beside r) (conjuncts_reduced beside l h.1) (conjuncts_reduced beside r h.2)
  conjuncts_reduced beside (Join (Without op) l r) h = part_reduced (Join (Without op) l r) (admits_fact_of (Join (Without op) l r) beside) h
  conjuncts_reduced beside (Join (ExactlyOne op) l r) h = part_reduced (Join (ExactlyOne op) l r) (admits_fact_of (Join (ExactlyOne op) l r) beside) h
  conjuncts_reduced beside (Not op a) h = part_reduced (Not op a) (admits_fact_of (Not op a) beside) h
  conjuncts_reduced beside (Union op l r) h = part_reduced (Union op l r) (admits_fact_of (Union op l r) beside) h
  conjuncts_reduced beside (Parens a) h = part_reduced (Parens a) (admits_fact_of (Parens a) beside) h
  conjuncts_reduced beside (Set l) h = part_reduced (Set l) (admits_fact_of (Set l) beside) h

  -- ---- what operators make of reduced operands

  abbrev pub IsReducedRest : Rest S → Type 0
  IsReducedRest (Constant v) = Unit {0}
  IsReducedRest (Reduced e) = IsReduced e

  united_left : (op : OrOperator) (l kept : Tree S) (left : Option (Tree S)) → ((y : Tree S) → Contains (disjuncts kept) y → says_one_of y l ≡ false)
      → IsReduced kept → IfKept left (IsKeptDisjunct kept l) → IfKept left IsReduced → IsReducedRest (left_kept (Union op) kept left)
  united_left op l kept None right k is h = k
  united_left op l kept (Some left) right k is h =
      (λ x y p q. (none_said x kept y (is x p).1 q, none_said y l x (right y q) (is x p).0), h, k)

  united_right : (op : OrOperator) (l r : Tree S) (kept : Option (Tree S)) → IsReduced l
      → IfKept kept (IsKeptDisjunct l r) → IfKept kept IsReduced → IsReducedRest (right_kept (Union op) (λ beside. kept_disjuncts beside l) l kept)
  united_right op l r None h is k = h
  united_right op l r (Some kept) h is k =
      united_left op l kept (kept_disjuncts kept l) (λ y c. (is y c).1) k (disjuncts_kept kept l) (disjuncts_reduced kept l h)

  united_is : (op : OrOperator) (l r : Rest S) → IsReducedRest l → IsReducedRest r → IsReducedRest (united op l r)
  united_is op (Constant true) r h k = tt
  united_is op (Constant false) r h k = k
  united_is op (Reduced l) (Constant true) h k = tt
  united_is op (Reduced l) (Constant false) h k = h
  united_is op (Reduced l) (Reduced r) h k =
      united_right op l r (kept_disjuncts l r) h (disjuncts_kept l r) (disjuncts_reduced l r k)

  intersected_left : (op : AndOperator) (l kept : Tree S) (left : Option (Tree S)) → ((y : Tree S) → Contains (conjuncts kept) y → admits_fact_of y l ≡ false)
      → IsReduced kept → IfKept left (IsKeptConjunct kept l) → IfKept left (HasFactsOf l) → IfKept left IsReduced → IsReducedRest (left_kept (Join (Both op)) kept left)
  intersected_left op l kept None right k is f h = k
  intersected_left op l kept (Some left) right k is f h =
      ((λ x y p q. none_admitted x kept y (is x p).1 q, λ x y p q. none_admitted y l x (right y q) (f x p)), h, k)

  intersected_right : (op : AndOperator) (l r : Tree S) (kept : Option (Tree S)) → IsReduced l
      → IfKept kept (IsKeptConjunct l r) → IfKept kept IsReduced → IsReducedRest (right_kept (Join (Both op)) (λ beside. kept_conjuncts beside l) l kept)
  intersected_right op l r None h is k = h
  intersected_right op l r (Some kept) h is k =
      intersected_left op l kept (kept_conjuncts kept l) (λ y c. (is y c).1) k (conjuncts_kept kept l) (facts_kept kept l) (conjuncts_reduced kept l h)

  intersected_is : (op : AndOperator) (l r : Rest S) → IsReducedRest l → IsReducedRest r → IsReducedRest (intersected op l r)
  intersected_is op (Constant true) r h k = k
  intersected_is op (Constant false) r h k = tt
  intersected_is op (Reduced l) (Constant true) h k = h
  intersected_is op (Reduced l) (Constant false) h k = tt
  intersected_is op (Reduced l) (Reduced r) h k =
      intersected_right op l r (kept_conjuncts l r) h (conjuncts_kept l r) (conjuncts_reduced l r k)

  negated_is : (op : NotOperator) (e : Rest S) → IsReducedRest e → IsReducedRest (negated op e)
  negated_is op (Constant v) h = tt
  negated_is op (Reduced (Not other e)) h = h.1
  negated_is op (Reduced (Union other l r)) h = (λ n. n, h)
  negated_is op (Reduced (Join other l r)) h = (λ n. n, h)
  negated_is op (Reduced (Parens e)) h = absurd h
  negated_is op (Reduced (Set l)) h = (λ n. n, h)

  none_or : (o : Bool) (e : Tree S) → (o ≡ false → IsReduced e) → IsReducedRest (none_if o e)
  none_or true e h = tt
  none_or false e h = h refl

  subtracted_is : (op : DifferenceOperator) (l r : Rest S) → IsReducedRest l → IsReducedRest r → IsReducedRest (subtracted op l r)
  subtracted_is op (Constant true) r h k = negated_is LiteralNot r k
  subtracted_is op (Constant false) r h k = tt
  subtracted_is op (Reduced l) (Constant true) h k = tt
  subtracted_is op (Reduced l) (Constant false) h k = h
  subtracted_is op (Reduced l) (Reduced r) h k = none_or (implies l r) (Join (Without op) l r) (λ e. (e, h, k))

  differing_is : (op : SymmetricDifferenceOperator) (l r : Rest S) → IsReducedRest l → IsReducedRest r → IsReducedRest (differing op l r)
  differing_is op (Constant true) r h k = negated_is LiteralNot r k
  differing_is op (Constant false) r h k = k
  differing_is op (Reduced l) (Constant true) h k = negated_is LiteralNot (Reduced l) h
  differing_is op (Reduced l) (Constant false) h k = h
  differing_is op (Reduced l) (Reduced r) h k = none_or (alike l r) (Join (ExactlyOne op) l r) (λ e. (e, h, k))

  -- what is left of a tree has nothing to leave out
  pub reduced_is : (e : Tree S) → IsReducedRest (reduced e)
  reduced_is (Not op e) = negated_is op (reduced e) (reduced_is e)
  reduced_is (Union op l r) = united_is op (reduced l) (reduced r) (reduced_is l) (reduced_is r)
  reduced_is (Join (Both op) l r) = intersected_is op (reduced l) (reduced r) (reduced_is l) (reduced_is r)
  reduced_is (Join (Without op) l r) = subtracted_is op (reduced l) (reduced r) (reduced_is l) (reduced_is r)
  reduced_is (Join (ExactlyOne op) l r) = differing_is op (reduced l) (reduced r) (reduced_is l) (reduced_is r)
  reduced_is (Parens e) = reduced_is e
  reduced_is (Set (Matching p m s)) = λ c. c
  reduced_is (Set (Platform p s)) = λ c. c
  reduced_is (Set (Default s)) = λ c. c
  reduced_is (Set tree.All) = tt
  reduced_is (Set tree.None) = tt

  -- ---- trees that stay

  negation_stays : (op : NotOperator) (e : Tree S) → ¬ IsNegation e → negated_tree op e ≡ Not op e
  negation_stays op (Not other e) h = absurd (h tt)
  negation_stays op (Union other l r) h = refl
  negation_stays op (Join other l r) h = refl
  negation_stays op (Parens e) h = refl
  negation_stays op (Set l) h = refl

  union_stays : (op : OrOperator) (l r : Tree S) → AreApartInUnion l r → united_trees op l r ≡ Reduced (Union op l r)
  union_stays op l r apart =
      ap (right_kept (Union op) (λ beside. kept_disjuncts beside l) l) (disjuncts_stay l r (λ y q. says_none y l (λ x p. (apart x y p q).1)))
      ∙ ap (left_kept (Union op) r) (disjuncts_stay r l (λ x p. says_none x r (λ y q. (apart x y p q).0)))

  intersection_stays : (op : AndOperator) (l r : Tree S) → AreApartInIntersection l r → intersected_trees op l r ≡ Reduced (Join (Both op) l r)
  intersection_stays op l r apart =
      ap (right_kept (Join (Both op)) (λ beside. kept_conjuncts beside l) l) (conjuncts_stay l r (λ y q. admits_none y l (λ x p. apart.1 x y p q)))
      ∙ ap (left_kept (Join (Both op)) r) (conjuncts_stay r l (λ x p. admits_none x r (λ y q. apart.0 x y p q)))

  both_at : (f : Rest S → Rest S → Rest S) (a b c d : Rest S) → a ≡ c → b ≡ d → f a b ≡ f c d
  both_at f a b c d e k = λ i. f (e i) (k i)

  pub reduced_stays : (e : Tree S) → IsReduced e → reduced e ≡ Reduced e
  reduced_stays (Not op e) h = ap (negated op) (reduced_stays e h.1) ∙ ap Reduced (negation_stays op e h.0)
  reduced_stays (Union op l r) h =
      both_at (united op) (reduced l) (reduced r) (Reduced l) (Reduced r) (reduced_stays l h.1) (reduced_stays r h.2) ∙ union_stays op l r h.0
  reduced_stays (Join (Both op) l r) h =
      both_at (intersected op) (reduced l) (reduced r) (Reduced l) (Reduced r) (reduced_stays l h.1) (reduced_stays r h.2) ∙ intersection_stays op l r h.0
  reduced_stays (Join (Without op) l r) h =
      both_at (subtracted op) (reduced l) (reduced r) (Reduced l) (Reduced r) (reduced_stays l h.1) (reduced_stays r h.2) ∙ ap (λ o. none_if o (Join (Without op) l r)) h.0
  reduced_stays (Join (ExactlyOne op) l r) h =
      both_at (differing op) (reduced l) (reduced r) (Reduced l) (Reduced r) (reduced_stays l h.1) (reduced_stays r h.2) ∙ ap (λ o. none_if o (Join (ExactlyOne op) l r)) h.0
  reduced_stays (Parens e) h = absurd h
  reduced_stays (Set (Matching p m s)) h = refl
  reduced_stays (Set (Platform p s)) h = refl
  reduced_stays (Set (Default s)) h = refl
  reduced_stays (Set tree.All) h = absurd (h tt)
  reduced_stays (Set tree.None) h = absurd (h tt)

-- ---- parentheses

placed_reduced : {S : Type 0} {may : Type 0} {d f : Tree S} → IsEnclosedUnless may d f → reduced f ≡ reduced d
placed_reduced (stands h) = refl
placed_reduced (enclosed h) = refl

-- added parentheses change nothing of what is left
pub parens_reduced : {S : Type 0} {e d : Tree S} → IsWithParens e d → reduced d ≡ reduced e
parens_reduced (negation {op} added placed) = ap (negated op) (placed_reduced placed ∙ parens_reduced added)
parens_reduced (union {op} {l} {a} {r} {b} {d} left right placed) =
    both_at (united op) (reduced a) (reduced d) (reduced l) (reduced r) (parens_reduced left) (placed_reduced placed ∙ parens_reduced right)
parens_reduced (join {op = Both op} {l} {a} {c} {r} {b} {d} left before right after) =
    both_at (intersected op) (reduced c) (reduced d) (reduced l) (reduced r) (placed_reduced before ∙ parens_reduced left) (placed_reduced after ∙ parens_reduced right)
parens_reduced (join {op = Without op} {l} {a} {c} {r} {b} {d} left before right after) =
    both_at (subtracted op) (reduced c) (reduced d) (reduced l) (reduced r) (placed_reduced before ∙ parens_reduced left) (placed_reduced after ∙ parens_reduced right)
parens_reduced (join {op = ExactlyOne op} {l} {a} {c} {r} {b} {d} left before right after) =
    both_at (differing op) (reduced c) (reduced d) (reduced l) (reduced r) (placed_reduced before ∙ parens_reduced left) (placed_reduced after ∙ parens_reduced right)
parens_reduced (parens added) = parens_reduced added
parens_reduced leaf = refl
