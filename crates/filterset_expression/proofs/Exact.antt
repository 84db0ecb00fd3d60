-- A fold by the Kleene connectives is definite exactly where every list of answers agrees, and then it is the answer for
-- every test.
use Rattle.std.proofs.Common.{◌≡◌, ◌↔◌, ℕ, ◌+◌, Bool, true, false, refl, ap, subst, arith, Option, Some, None, List, [], ◌∷◌, ◌++◌, length, take, drop, replicate, length-append, length-take, length-drop, inl, ⊎_elim}
use Rattle.std.proofs.{lemmas.List.length-replicate, Math.Seq.take-append_seam, Math.Seq.drop-append_seam}
use Rattle.std.specs.{Bool.IsTrue, Bool.MatchBool, Bool.one_answer, Prelude.IsSomeAnd}
use Rattle.filterset_expression.specs.Connectives.{Connective, Conjunction, Disjunction, ExclusiveDisjunction, Connects, Decides, connected, kleene, kleene_not}
use Rattle.filterset_expression.specs.Folds.{Folds, Settles}
use Rattle.filterset_expression.specs.Formula.{Formula, Leaf, Negation, Compound, TrueWhere}
use Rattle.filterset_expression.specs.Values.{occurrences, TrueUnder, CanBe, IsAlways, IsOpen}
use Rattle.filterset_expression.proofs.Connectives.{connects_alike, connected_decides, Knows, Allows, Reaches, IsExact, kleene_exact}
use Rattle.filterset_expression.proofs.Folding.{decides_not, decided_truth}

module _ {A : Type 0} (is_asked : A → Bool) (holds : A → Type 0) where
  -- what a value of three says of the values that the formula takes
  abbrev Says : Formula A → Option Bool → Type 0
  Says f (Some b) = (answers : List Bool) → length answers ≡ occurrences is_asked f → (IsTrue b ↔ (TrueUnder is_asked holds f answers))
  Says f None = IsOpen is_asked holds f

  -- some list of answers has the right length
  some_answers : (f : Formula A) → (answers : List Bool) × (length answers ≡ occurrences is_asked f)
  some_answers f = (replicate (occurrences is_asked f) true, length-replicate _ _)

  can_be : (f : Formula A) (b : Bool) → Says f (Some b) → CanBe is_asked holds f b
  can_be f b says = let some = some_answers f in (some.0, some.1, says some.0 some.1)

  -- answers to two formulas, one after another
  both_lengths : (f g : Formula A) (xs ys : List Bool) → length xs ≡ occurrences is_asked f → length ys ≡ occurrences is_asked g → length (xs ++ ys) ≡ occurrences is_asked f + occurrences is_asked g
  both_lengths f g xs ys h k = omega (arith, length-append xs ys)

  cut_front : (n : ℕ) (xs ys : List Bool) → length xs ≡ n → take n (xs ++ ys) ≡ xs
  cut_front n xs ys h = subst (λ k. take k (xs ++ ys) ≡ xs) h (take-append_seam xs ys)

  cut_back : (n : ℕ) (xs ys : List Bool) → length xs ≡ n → drop n (xs ++ ys) ≡ ys
  cut_back n xs ys h = subst (λ k. drop k (xs ++ ys) ≡ ys) h (drop-append_seam xs ys)

  -- a compound formula takes what its connective makes of values that its operands take
  pub compound_can_be : (c : Connective) (f g : Formula A) (a b : Bool) → CanBe is_asked holds f a → CanBe is_asked holds g b → CanBe is_asked holds (Compound c f g) (connected c a b)
  compound_can_be c f g a b p q =
      (p.0 ++ q.0, both_lengths f g p.0 q.0 p.1 q.1, rw (cut_front _ p.0 q.0 p.1, cut_back _ p.0 q.0 p.1) (connected_decides c a b _ _ p.2 q.2))

  -- the answers to the two sides
  pub front_length : (f g : Formula A) (answers : List Bool) → length answers ≡ occurrences is_asked f + occurrences is_asked g → length (take (occurrences is_asked f) answers) ≡ occurrences is_asked f
  front_length f g answers h = omega (arith, length-take (occurrences is_asked f) answers)

  pub back_length : (f g : Formula A) (answers : List Bool) → length answers ≡ occurrences is_asked f + occurrences is_asked g → length (drop (occurrences is_asked f) answers) ≡ occurrences is_asked g
  back_length f g answers h = omega (arith, length-drop (occurrences is_asked f) answers)

  -- where the operands of a connective may change places, the answers to them change places with them
  pub turned_can_be : (c : Connective) → ((P Q : Type 0) → Connects c P Q → Connects c Q P) → (f g : Formula A) (value : Bool) → CanBe is_asked holds (Compound c f g) value → CanBe is_asked holds (Compound c g f) value
  turned_can_be c turn f g value can =
      let front = take (occurrences is_asked f) can.0 in
      let back = drop (occurrences is_asked f) can.0 in
      let ours = front_length f g can.0 can.1 in
      let theirs = back_length f g can.0 can.1 in
      (back ++ front, both_lengths g f back front theirs ours, rw (cut_front _ back front theirs, cut_back _ back front theirs) (λ yes. turn _ _ (can.2.0 yes), λ t. can.2.1 (turn _ _ t)))

  not_says : (f : Formula A) (x : Option Bool) → Says f x → Says (Negation f) (kleene_not x)
  not_says f (Some b) says = λ answers h. decides_not b _ (says answers h)
  not_says f None says =
      let yes = says.0 in
      let no = says.1 in
      ((no.0, no.1, decides_not false _ no.2), (yes.0, yes.1, decides_not true _ yes.2))

  -- what a value says of the truth under one list of answers
  knows : (f : Formula A) (x : Option Bool) → Says f x → (answers : List Bool) → length answers ≡ occurrences is_asked f → Knows x (TrueUnder is_asked holds f answers)
  knows f (Some b) says answers h = says answers h
  knows f None says answers h = tt

  -- the formula takes each value that is left open
  takes : (f : Formula A) (x : Option Bool) (a : Bool) → Says f x → Allows x a → CanBe is_asked holds f a
  takes f (Some b) a says e = subst (λ v. CanBe is_asked holds f v) e (can_be f b says)
  takes f None true says e = says.0
  takes f None false says e = says.1

  reached : (c : Connective) (f g : Formula A) (x y : Option Bool) (value : Bool) → Says f x → Says g y → Reaches c x y value → CanBe is_asked holds (Compound c f g) value
  reached c f g x y value p q r =
      subst (λ v. CanBe is_asked holds (Compound c f g) v) r.4 (compound_can_be c f g r.0 r.1 (takes f x r.0 p r.2) (takes g y r.1 q r.3))

  exact_says : (c : Connective) (f g : Formula A) (x y z : Option Bool) → ((P Q : Type 0) → IsExact c x y P Q z) → Says f x → Says g y → Says (Compound c f g) z
  exact_says c f g x y (Some value) exact p q =
      λ answers h. exact _ _ (knows f x p _ (front_length f g answers h)) (knows g y q _ (back_length f g answers h))
  exact_says c f g x y None exact p q =
      let both = exact ⊥ ⊥ in (reached c f g x y true p q both.0, reached c f g x y false p q both.1)

  leaf_says : (leaf : A) (asked : Bool) (x : Option Bool) → is_asked leaf ≡ asked → MatchBool asked (x ≡ None) (IsSomeAnd x (λ b. (IsTrue b ↔ (holds leaf)))) → Says (Leaf leaf) x
  leaf_says leaf true None e h =
      ((true ∷ [], rw e refl, rw e (λ t. refl, λ t. t)), (false ∷ [], rw e refl, rw e (λ t. t, λ t. t)))
  leaf_says leaf true (Some b) e h = absurd (let clash : Some b ≡ None = h in cc)
  leaf_says leaf false None e h = absurd h
  leaf_says leaf false (Some b) e h = λ answers k. rw e h

  -- a value that decides the connective says of what it makes what it says of the left operand
  decided_says : (c : Connective) (f g : Formula A) (x : Option Bool) → Decides (Some true) (Some false) c x → Says f x → Says (Compound c f g) x
  decided_says Conjunction f g (Some false) e says = λ answers h.
      (λ yes. absurd (let clash : false ≡ true = yes in cc), λ t. (says _ (front_length f g answers h)).1 t.0)
  decided_says Conjunction f g (Some true) e says = absurd (let clash : Some true ≡ Some false = e in cc)
  decided_says Conjunction f g None e says = absurd (let clash : None ≡ Some false = e in cc)
  decided_says Disjunction f g (Some true) e says = λ answers h.
      (λ yes. inl ((says _ (front_length f g answers h)).0 yes), λ t. refl)
  decided_says Disjunction f g (Some false) e says = absurd (let clash : Some false ≡ Some true = e in cc)
  decided_says Disjunction f g None e says = absurd (let clash : None ≡ Some true = e in cc)
  decided_says ExclusiveDisjunction f g x e says = absurd e

  fold_says : (f : Formula A) (x : Option Bool) → Folds kleene_not kleene (Decides (Some true) (Some false)) (Settles is_asked holds) f x → Says f x
  fold_says (Leaf leaf) x h = leaf_says leaf (is_asked leaf) x refl h
  fold_says (Negation f) x h = rw h.2 (not_says f h.0 (fold_says f h.0 h.1))
  fold_says (Compound c f g) x h =
      ⊎_elim (λ both. rw both.2 (exact_says c f g h.0 both.0 (kleene c h.0 both.0) (kleene_exact c h.0 both.0) (fold_says f h.0 h.1) (fold_says g both.0 both.1))) (λ decided. rw decided.1 (decided_says c f g h.0 decided.0 (fold_says f h.0 h.1))) h.2

  -- definite exactly where the formula takes one value alone
  always_from_says : (f : Formula A) (b : Bool) → Says f (Some b) → IsAlways is_asked holds f b
  always_from_says f b says other =
      (λ can. one_answer other b can.2 (says can.0 can.1), λ e. rw e (can_be f b says))

  says_definite : (f : Formula A) (x : Option Bool) → Says f x → (b : Bool) → (x ≡ Some b) ↔ IsAlways is_asked holds f b
  says_definite f (Some c) says b = (
    λ e. let same : c ≡ b = cc in subst (λ v. IsAlways is_asked holds f v) same (always_from_says f c says),
    λ always. ap Some ((always c).0 (can_be f c says)),
  )
  says_definite f None says b = (
    λ e. absurd (let clash : None ≡ Some b = e in cc),
    λ always. absurd (let yes : true ≡ b = (always true).0 says.0 in let no : false ≡ b = (always false).0 says.1 in let clash : true ≡ false = cc in cc),
  )

  says_open : (f : Formula A) (x : Option Bool) → Says f x → (x ≡ None) ↔ IsOpen is_asked holds f
  says_open f (Some true) says = (
    λ e. absurd (let clash : Some true ≡ None = e in cc),
    λ both. absurd (let clash : false ≡ true = ((always_from_says f true says) false).0 both.1 in cc),
  )
  says_open f (Some false) says = (
    λ e. absurd (let clash : Some false ≡ None = e in cc),
    λ both. absurd (let clash : true ≡ false = ((always_from_says f false says) true).0 both.0 in cc),
  )
  says_open f None says = (λ e. says, λ both. refl)

  -- a fold by the Kleene connectives is definite exactly where the formula takes one value alone
  pub fold_definite : (f : Formula A) (x : Option Bool) → Folds kleene_not kleene (Decides (Some true) (Some false)) (Settles is_asked holds) f x → (b : Bool) → (x ≡ Some b) ↔ IsAlways is_asked holds f b
  fold_definite f x h = says_definite f x (fold_says f x h)

  -- and unknown exactly where it takes both
  pub fold_open : (f : Formula A) (x : Option Bool) → Folds kleene_not kleene (Decides (Some true) (Some false)) (Settles is_asked holds) f x → (x ≡ None) ↔ IsOpen is_asked holds f
  fold_open f x h = says_open f x (fold_says f x h)

-- what values of three know of propositions, they know of what is made of them
not_knows : (x : Option Bool) (P : Type 0) → Knows x P → Knows (kleene_not x) (¬ P)
not_knows None P knows = tt
not_knows (Some b) P knows = decides_not b P knows

exact_knows : (c : Connective) (x y z : Option Bool) (P Q : Type 0) → IsExact c x y P Q z → Knows x P → Knows y Q → Knows z (Connects c P Q)
exact_knows c x y None P Q exact p q = tt
exact_knows c x y (Some value) P Q exact p q = exact p q

connected_knows : (c : Connective) (x y : Option Bool) (P Q : Type 0) → Knows x P → Knows y Q → Knows (kleene c x y) (Connects c P Q)
connected_knows c x y P Q = exact_knows c x y (kleene c x y) P Q (kleene_exact c x y P Q)

decided_knows : (c : Connective) (x : Option Bool) (P Q : Type 0) → Decides (Some true) (Some false) c x → Knows x P → Knows x (Connects c P Q)
decided_knows Conjunction x P Q e knows = rw e (decided_truth Conjunction false P Q refl (rw e at knows))
decided_knows Disjunction x P Q e knows = rw e (decided_truth Disjunction true P Q refl (rw e at knows))
decided_knows ExclusiveDisjunction x P Q e knows = absurd e

-- values that cannot differ are the same
pub same_unless : (a b : Bool) → ¬ (¬ (a ≡ b)) → a ≡ b
same_unless true true h = refl
same_unless false false h = refl
same_unless true false h = absurd (h (λ e. let clash : true ≡ false = e in cc))
same_unless false true h = absurd (h (λ e. let clash : false ≡ true = e in cc))

-- of_test says what `holds` says, where a leaf is not asked
module _ {A : Type 0} (is_asked : A → Bool) (holds of_test : A → Type 0) (agree : (leaf : A) → is_asked leaf ≡ false → holds leaf ↔ of_test leaf) where
  leaf_knows : (leaf : A) (asked : Bool) (x : Option Bool) → is_asked leaf ≡ asked → MatchBool asked (x ≡ None) (IsSomeAnd x (λ b. (IsTrue b ↔ holds leaf))) → Knows x (of_test leaf)
  leaf_knows leaf true x e h = rw h tt
  leaf_knows leaf false None e h = absurd h
  leaf_knows leaf false (Some b) e h = let own = agree leaf e in (λ yes. own.0 (h.0 yes), λ t. h.1 (own.1 t))

  -- answers under which the formula is true exactly where it is true of the test
  abbrev Answered : Formula A → Type 0
  Answered f = (answers : List Bool) × (length answers ≡ occurrences is_asked f) × (TrueUnder is_asked holds f answers ↔ TrueWhere of_test f)

  leaf_answered : (leaf : A) (asked : Bool) → is_asked leaf ≡ asked → ¬ (¬ Answered (Leaf leaf))
  leaf_answered leaf true e none =
      let matches : ¬ of_test leaf = λ t. none (true ∷ [], rw e refl, rw e (λ s. t, λ s. refl)) in
      none (false ∷ [], rw e refl, rw e (λ s. absurd (let clash : false ≡ true = s in cc), λ t. absurd (matches t)))
  leaf_answered leaf false e none = none ([], rw e refl, rw e (agree leaf e))

  -- it cannot be that there are none
  answered : (f : Formula A) → ¬ (¬ Answered f)
  answered (Leaf leaf) none = leaf_answered leaf (is_asked leaf) refl none
  answered (Negation f) none = answered f (λ a. none (a.0, a.1, (λ n t. n (a.2.1 t), λ n t. n (a.2.0 t))))
  answered (Compound c f g) none =
      answered f (λ a. answered g (λ b. none (a.0 ++ b.0, both_lengths is_asked holds f g a.0 b.0 a.1 b.1, rw (cut_front is_asked holds _ a.0 b.0 a.1, cut_back is_asked holds _ a.0 b.0 a.1) (connects_alike c _ _ _ _ a.2 b.2))))

  -- where the formula takes one value alone, that is the answer
  pub definite_answer : (f : Formula A) (value answer : Bool) → IsAlways is_asked holds f value → (IsTrue answer ↔ TrueWhere of_test f) → answer ≡ value
  definite_answer f value answer always is =
      same_unless answer value (λ apart. answered f (λ a. apart ((always answer).0 (a.0, a.1, (λ t. a.2.1 (is.0 t), λ t. is.1 (a.2.0 t))))))

  -- a value by the Kleene connectives that is known says whether the formula is true of the test
  pub fold_knows : (f : Formula A) (x : Option Bool) → Folds kleene_not kleene (Decides (Some true) (Some false)) (Settles is_asked holds) f x → Knows x (TrueWhere of_test f)
  fold_knows (Leaf leaf) x h = leaf_knows leaf (is_asked leaf) x refl h
  fold_knows (Negation f) x h = rw h.2 (not_knows h.0 _ (fold_knows f h.0 h.1))
  fold_knows (Compound c f g) x h =
      ⊎_elim (λ both. rw both.2 (connected_knows c h.0 both.0 _ _ (fold_knows f h.0 h.1) (fold_knows g both.0 both.1))) (λ decided. rw decided.1 (decided_knows c h.0 _ _ decided.0 (fold_knows f h.0 h.1))) h.2
