-- The values that trees take, and what trees that imply others say of them.
use Rattle.std.proofs.Common.{◌≡◌, ◌↔◌, ◌⊎◌, Bool, true, false, refl, sym, subst, inl, inr, ⊎_elim}
use Rattle.std.specs.Prelude.{◌&&◌, ◌||◌, not}
use Rattle.std.proofs.lemmas.Bool.{false≢true, and_parts, or_parts}
use Rattle.std.proofs.Math.Bool.{and-false, not-not, or-true}
pub use Rattle.std.proofs.lemmas.Bool.{or_cases}
use Rattle.filterset_expression.specs.Connectives.{exclusive_or}
use Rattle.filterset_grammar.specs.Tree.{Leaf, Tree, Not, Union, Join, Parens, Set}
use Rattle.filterset_grammar.specs.declared.operators.Joiner.{Joiner}
use Rattle.filterset_grammar.specs.declared.operators.Joiner.TheVariants.{Both, Without, ExactlyOne}
use Rattle.filterset_deciding.specs.Simplifying.Alike.{alike, alike_leaves}
use Rattle.filterset_deciding.specs.Simplifying.Implying.{says, admits, implies, says_one_of, admits_fact_of}
use Rattle.filterset_deciding.proofs.Later.{Later, at_once, bind}

-- ---- truth values

-- what an operator of the level of `and` makes of two values
abbrev pub joined_values : Joiner → Bool → Bool → Bool
joined_values (Both op) x y = x && y
joined_values (Without op) x y = x && not y
joined_values (ExactlyOne op) x y = exclusive_or x y

-- ---- values of trees

module _ {S : Type 0} (can : Leaf S → Bool → Type 0) where
  -- the tree takes the value, if each occurrence of a predicate takes some value that it can
  abbrev pub Takes : Tree S → Bool → Type 0
  Takes (Not op e) v = Takes e (not v)
  Takes (Union op l r) v = (x : Bool) × (y : Bool) × Takes l x × Takes r y × ((x || y) ≡ v)
  Takes (Join op l r) v = (x : Bool) × (y : Bool) × Takes l x × Takes r y × (joined_values op x y ≡ v)
  Takes (Parens e) v = Takes e v
  Takes (Set leaf) v = can leaf v

module _ {S : Type 0} (can : Leaf S → Bool → Type 0)
    (some : (leaf : Leaf S) → Later ((v : Bool) × can leaf v))
    (alike_can : (l m : Leaf S) → alike_leaves l m ≡ true → (v : Bool) → can l v ↔ can m v) where
  pub takes_some : (e : Tree S) → Later ((v : Bool) × Takes can e v)
  takes_some (Not op e) =
      bind (takes_some e) (λ t. at_once (not t.0, subst (λ v. Takes can e v) (sym (not-not t.0)) t.1))
  takes_some (Union op l r) =
      bind (takes_some l) (λ a. bind (takes_some r) (λ b. at_once (a.0 || b.0, (a.0, b.0, a.1, b.1, refl))))
  takes_some (Join op l r) =
      bind (takes_some l) (λ a. bind (takes_some r) (λ b. at_once (joined_values op a.0 b.0, (a.0, b.0, a.1, b.1, refl))))
  takes_some (Parens e) = takes_some e
  takes_some (Set leaf) = some leaf

  pub takes_alike : (a b : Tree S) → alike a b ≡ true → (v : Bool) → Takes can a v ↔ Takes can b v
  takes_alike (Not op a) (Not other b) e v = takes_alike a b e (not v)
  takes_alike (Union op a b) (Union other c d) e v =
      let parts = and_parts (alike a c) (alike b d) e in (
        λ t. (t.0, t.1, (takes_alike a c parts.0 t.0).0 t.2, (takes_alike b d parts.1 t.1).0 t.3, t.4),
        λ t. (t.0, t.1, (takes_alike a c parts.0 t.0).1 t.2, (takes_alike b d parts.1 t.1).1 t.3, t.4),
      )
  takes_alike (Join (Both op) a b) (Join (Both other) c d) e v =
      let parts = and_parts (alike a c) (alike b d) e in (
        λ t. (t.0, t.1, (takes_alike a c parts.0 t.0).0 t.2, (takes_alike b d parts.1 t.1).0 t.3, t.4),
        λ t. (t.0, t.1, (takes_alike a c parts.0 t.0).1 t.2, (takes_alike b d parts.1 t.1).1 t.3, t.4),
      )
  takes_alike (Join (Without op) a b) (Join (Without other) c d) e v =
      let parts = and_parts (alike a c) (alike b d) e in (
        λ t. (t.0, t.1, (takes_alike a c parts.0 t.0).0 t.2, (takes_alike b d parts.1 t.1).0 t.3, t.4),
        λ t. (t.0, t.1, (takes_alike a c parts.0 t.0).1 t.2, (takes_alike b d parts.1 t.1).1 t.3, t.4),
      )
  takes_alike (Join (ExactlyOne op) a b) (Join (ExactlyOne other) c d) e v =
      let parts = and_parts (alike a c) (alike b d) e in (
        λ t. (t.0, t.1, (takes_alike a c parts.0 t.0).0 t.2, (takes_alike b d parts.1 t.1).0 t.3, t.4),
        λ t. (t.0, t.1, (takes_alike a c parts.0 t.0).1 t.2, (takes_alike b d parts.1 t.1).1 t.3, t.4),
      )
  takes_alike (Set leaf) (Set other) e v = alike_can leaf other e v
  takes_alike _ _ e v = absurd (false≢true e)

  -- ---- what a tree says holds where it does

  left_true : (l r : Tree S) (x y : Bool) → Takes can l x → (x && y) ≡ true → Takes can l true
  left_true l r x y t e = subst (λ v. Takes can l v) (and_parts x y e).0 t

  right_true : (r : Tree S) (x y : Bool) → Takes can r y → (x && y) ≡ true → Takes can r true
  right_true r x y t e = subst (λ v. Takes can r v) (and_parts x y e).1 t

  pub says_true : (e other : Tree S) → says e other ≡ true → Takes can e true → Takes can other true
  says_true (Join (Both op) l r) other e t =
      ⊎_elim
      (λ front. ⊎_elim (λ whole. (takes_alike (Join (Both op) l r) other whole true).0 t) (λ left. says_true l other left (left_true l r t.0 t.1 t.2 t.4)) (or_cases (alike (Join (Both op) l r) other) (says l other) front))
      (λ right. says_true r other right (right_true r t.0 t.1 t.3 t.4))
      (or_cases (alike (Join (Both op) l r) other || says l other) (says r other) e)
  says_true (Join (Without op) l r) other e t =
      ⊎_elim
      (λ whole. (takes_alike (Join (Without op) l r) other whole true).0 t)
      (λ left. says_true l other left (left_true l r t.0 (not t.1) t.2 t.4))
      (or_cases (alike (Join (Without op) l r) other) (says l other) e)
  says_true (Join (ExactlyOne op) l r) other e t = (takes_alike (Join (ExactlyOne op) l r) other e true).0 t
  says_true (Not op a) other e t = (takes_alike (Not op a) other e true).0 t
  says_true (Union op l r) other e t = (takes_alike (Union op l r) other e true).0 t
  says_true (Parens a) other e t = (takes_alike (Parens a) other e true).0 t
  says_true (Set leaf) other e t = (takes_alike (Set leaf) other e true).0 t

  pub says_false : (e other : Tree S) → says e other ≡ true → Takes can other false → Later (Takes can e false)
  says_false (Join (Both op) l r) other e t =
      ⊎_elim
      (λ front. ⊎_elim (λ whole. at_once ((takes_alike (Join (Both op) l r) other whole false).1 t)) (λ left. bind (says_false l other left t) (λ a. bind (takes_some r) (λ b. at_once (false, b.0, a, b.1, refl)))) (or_cases (alike (Join (Both op) l r) other) (says l other) front))
      (λ right. bind (says_false r other right t) (λ b. bind (takes_some l) (λ a. at_once (a.0, false, a.1, b, and-false a.0))))
      (or_cases (alike (Join (Both op) l r) other || says l other) (says r other) e)
  says_false (Join (Without op) l r) other e t =
      ⊎_elim
      (λ whole. at_once ((takes_alike (Join (Without op) l r) other whole false).1 t))
      (λ left. bind (says_false l other left t) (λ a. bind (takes_some r) (λ b. at_once (false, b.0, a, b.1, refl))))
      (or_cases (alike (Join (Without op) l r) other) (says l other) e)
  says_false (Join (ExactlyOne op) l r) other e t = at_once ((takes_alike (Join (ExactlyOne op) l r) other e false).1 t)
  says_false (Not op a) other e t = at_once ((takes_alike (Not op a) other e false).1 t)
  says_false (Union op l r) other e t = at_once ((takes_alike (Union op l r) other e false).1 t)
  says_false (Parens a) other e t = at_once ((takes_alike (Parens a) other e false).1 t)
  says_false (Set leaf) other e t = at_once ((takes_alike (Set leaf) other e false).1 t)

  pub admits_true : (e other : Tree S) → admits e other ≡ true → Takes can other true → Later (Takes can e true)
  admits_true (Union op l r) other e t =
      ⊎_elim
      (λ front. ⊎_elim (λ whole. at_once ((takes_alike other (Union op l r) whole true).0 t)) (λ left. bind (admits_true l other left t) (λ a. bind (takes_some r) (λ b. at_once (true, b.0, a, b.1, refl)))) (or_cases (alike other (Union op l r)) (admits l other) front))
      (λ right. bind (admits_true r other right t) (λ b. bind (takes_some l) (λ a. at_once (a.0, true, a.1, b, or-true a.0))))
      (or_cases (alike other (Union op l r) || admits l other) (admits r other) e)
  admits_true (Not op a) other e t = at_once ((takes_alike other (Not op a) e true).0 t)
  admits_true (Join op l r) other e t = at_once ((takes_alike other (Join op l r) e true).0 t)
  admits_true (Parens a) other e t = at_once ((takes_alike other (Parens a) e true).0 t)
  admits_true (Set leaf) other e t = at_once ((takes_alike other (Set leaf) e true).0 t)

  pub implies_true : (e other : Tree S) → implies e other ≡ true → Takes can e true → Later (Takes can other true)
  implies_true e (Union op l r) h t =
      ⊎_elim
      (λ front. ⊎_elim (λ whole. at_once (says_true e (Union op l r) whole t)) (λ left. bind (implies_true e l left t) (λ a. bind (takes_some r) (λ b. at_once (true, b.0, a, b.1, refl)))) (or_cases (says e (Union op l r)) (implies e l) front))
      (λ right. bind (implies_true e r right t) (λ b. bind (takes_some l) (λ a. at_once (a.0, true, a.1, b, or-true a.0))))
      (or_cases (says e (Union op l r) || implies e l) (implies e r) h)
  implies_true e (Not op a) h t = at_once (says_true e (Not op a) h t)
  implies_true e (Join op l r) h t = at_once (says_true e (Join op l r) h t)
  implies_true e (Parens a) h t = at_once (says_true e (Parens a) h t)
  implies_true e (Set leaf) h t = at_once (says_true e (Set leaf) h t)

  -- where the other tree fails, so does one that says a disjunct of it
  pub one_of_false : (e other : Tree S) → says_one_of e other ≡ true → Takes can other false → Later (Takes can e false)
  one_of_false e (Union op l r) h t =
      let parts = or_parts t.0 t.1 t.4 in
      ⊎_elim
      (λ left. one_of_false e l left (subst (λ v. Takes can l v) parts.0 t.2))
      (λ right. one_of_false e r right (subst (λ v. Takes can r v) parts.1 t.3))
      (or_cases (says_one_of e l) (says_one_of e r) h)
  one_of_false e (Not op a) h t = says_false e (Not op a) h t
  one_of_false e (Join op l r) h t = says_false e (Join op l r) h t
  one_of_false e (Parens a) h t = says_false e (Parens a) h t
  one_of_false e (Set leaf) h t = says_false e (Set leaf) h t

  -- where the other tree holds, so does one that admits a fact of it
  pub fact_true : (e other : Tree S) → admits_fact_of e other ≡ true → Takes can other true → Later (Takes can e true)
  fact_true e (Join (Both op) l r) h t =
      ⊎_elim
      (λ left. fact_true e l left (left_true l r t.0 t.1 t.2 t.4))
      (λ right. fact_true e r right (right_true r t.0 t.1 t.3 t.4))
      (or_cases (admits_fact_of e l) (admits_fact_of e r) h)
  fact_true e (Join (Without op) l r) h t =
      ⊎_elim
      (λ whole. admits_true e (Join (Without op) l r) whole t)
      (λ left. fact_true e l left (left_true l r t.0 (not t.1) t.2 t.4))
      (or_cases (admits e (Join (Without op) l r)) (admits_fact_of e l) h)
  fact_true e (Join (ExactlyOne op) l r) h t = admits_true e (Join (ExactlyOne op) l r) h t
  fact_true e (Not op a) h t = admits_true e (Not op a) h t
  fact_true e (Union op l r) h t = admits_true e (Union op l r) h t
  fact_true e (Parens a) h t = admits_true e (Parens a) h t
  fact_true e (Set leaf) h t = admits_true e (Set leaf) h t
