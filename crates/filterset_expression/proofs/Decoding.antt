-- Steps read back as formulas, and runs that keep a fold of each formula on the stack.
use Rattle.std.proofs.Common.{◌≡◌, ◌≤◌, ◌+◌, ◌-◌, ℕ, suc, true, sym, ◌∙◌, subst, refl, arith, List, [], ◌∷◌, ◌++◌, length, drop, length-append, append_assoc, inl, inr, ap}
use Rattle.std.proofs.{Math.Seq.drop-append_seam, lemmas.List.append-nil, lemmas.Bool.and_parts}
use Rattle.filterset_expression.specs.{Connectives.Connective, Folds.Folds}
use Rattle.filterset_expression.specs.Formula.{Formula, Leaf, Negation, Compound}
use Rattle.filterset_expression.specs.FlatSteps.{Step, Push, Negate, Combine, postfix}
use Rattle.filterset_expression.specs.Passing.{Advances}
use Rattle.filterset_expression.specs.Running.{finds_operands, leaves_one, greatest_height}
use Rattle.filterset_expression.proofs.FlatSteps.{postfix_leaves_one, greatest_past}

-- the formulas that the steps make of those on the stack, whose top comes first
abbrev pub decoded : {A : Type 0} → List (Step A) → List (Formula A) → List (Formula A)
decoded [] stack = stack
decoded (Push leaf ∷ steps) stack = decoded steps (Leaf leaf ∷ stack)
decoded (Negate ∷ steps) [] = []
decoded (Negate ∷ steps) (f ∷ stack) = decoded steps (Negation f ∷ stack)
decoded (Combine connective ∷ steps) [] = []
decoded (Combine connective ∷ steps) (g ∷ []) = []
decoded (Combine connective ∷ steps) (g ∷ f ∷ stack) = decoded steps (Compound connective f g ∷ stack)

-- the steps of a formula make it
pub decoded_postfix : {A : Type 0} (f : Formula A) (rest : List (Step A)) (stack : List (Formula A)) → decoded (postfix f ++ rest) stack ≡ decoded rest (f ∷ stack)
decoded_postfix (Leaf leaf) rest stack = refl
decoded_postfix (Negation f) rest stack = rw append_assoc (decoded_postfix f (Negate ∷ rest) stack)
decoded_postfix (Compound c f g) rest stack =
    rw append_assoc (decoded_postfix f ((postfix g ++ Combine c ∷ []) ++ rest) stack ∙ rw append_assoc (decoded_postfix g (Combine c ∷ rest) (f ∷ stack)))

pub decoded_whole : {A : Type 0} (f : Formula A) → decoded (postfix f) [] ≡ f ∷ []
decoded_whole f = subst (λ s. decoded s [] ≡ f ∷ []) (append-nil (postfix f)) (decoded_postfix f [] [])

-- what stands after a right operand and its connective
past_operand : {A : Type 0} (c : Connective) (right : Formula A) (rest left : List (Step A)) (count : ℕ) → left ≡ postfix right ++ Combine c ∷ rest → count ≡ length (postfix right) + 1 → drop count left ≡ rest
past_operand c right rest left count l n =
    let grouped : left ≡ (postfix right ++ Combine c ∷ []) ++ rest = l ∙ sym (append_assoc (postfix right) (Combine c ∷ []) rest) in
    let counted : count ≡ length (postfix right ++ Combine c ∷ []) = n ∙ sym (length-append (postfix right) (Combine c ∷ [])) in
    rw (grouped, counted) (drop-append_seam (postfix right ++ Combine c ∷ []) rest)

module _ {A L : Type 0} (not_of : L → L) (connect : Connective → L → L → L) (decides : Connective → L → Type 0) (gives : A → L → Type 0) where
  -- each value is a fold of the formula at its position
  abbrev pub AreFolds : List (Formula A) → List L → Type 0
  AreFolds [] [] = Unit {0}
  AreFolds [] (x ∷ values) = ⊥
  AreFolds (f ∷ formulas) [] = ⊥
  AreFolds (f ∷ formulas) (x ∷ values) = Folds not_of connect decides gives f x × AreFolds formulas values

  -- The values are folds of formulas, of which the steps that are left make the formula that all steps make.
  abbrev pub Stands : List (Step A) → List (Step A) → List L → Type 0
  Stands all left values =
      (formulas : List (Formula A)) × (decoded left formulas ≡ decoded all []) × AreFolds formulas values

  pub push_stands : (all rest : List (Step A)) (leaf : A) (old new : List L) (x : L) → gives leaf x → new ≡ x ∷ old → Stands all (Push leaf ∷ rest) old → Stands all rest new
  push_stands all rest leaf old new x given e h = (Leaf leaf ∷ h.0, h.1, rw e (given, h.2))

  negate_folds : (all rest : List (Step A)) (front : List L) (x : L) (formulas : List (Formula A)) → decoded (Negate ∷ rest) formulas ≡ decoded all [] → AreFolds formulas (x ∷ front) → Stands all rest (not_of x ∷ front)
  negate_folds all rest front x [] d h = absurd h
  negate_folds all rest front x (f ∷ formulas) d h = (Negation f ∷ formulas, d, ((x, h.0, refl), h.1))

  pub negate_stands : (all rest : List (Step A)) (old front new : List L) (x y : L) → old ≡ x ∷ front → y ≡ not_of x → new ≡ y ∷ front → Stands all (Negate ∷ rest) old → Stands all rest new
  negate_stands all rest old front new x y o e n h =
      rw (n, e) (negate_folds all rest front x h.0 h.1 (rw o at h.2))

  combine_folds : (all rest : List (Step A)) (c : Connective) (front : List L) (x y : L) (formulas : List (Formula A)) → decoded (Combine c ∷ rest) formulas ≡ decoded all [] → AreFolds formulas (y ∷ x ∷ front) → Stands all rest (connect c x y ∷ front)
  combine_folds all rest c front x y [] d h = absurd h
  combine_folds all rest c front x y (g ∷ []) d h = absurd h.1
  combine_folds all rest c front x y (g ∷ f ∷ formulas) d h =
      (Compound c f g ∷ formulas, d, ((x, h.1.0, inl (y, h.0, refl)), h.1.1))

  pub combine_stands : (all rest : List (Step A)) (c : Connective) (old mid front new : List L) (x y z : L) → old ≡ y ∷ mid → mid ≡ x ∷ front → z ≡ connect c x y → new ≡ z ∷ front → Stands all (Combine c ∷ rest) old → Stands all rest new
  combine_stands all rest c old mid front new x y z o m e n h =
      rw (n, e) (combine_folds all rest c front x y h.0 h.1 (rw (o, m) at h.2))

  passed_folds : (all rest : List (Step A)) (c : Connective) (right : Formula A) (front : List L) (x : L) → decides c x → (formulas : List (Formula A)) → decoded (postfix right ++ Combine c ∷ rest) formulas ≡ decoded all [] → AreFolds formulas (x ∷ front) → Stands all rest (x ∷ front)
  passed_folds all rest c right front x decided [] d h = absurd h
  passed_folds all rest c right front x decided (f ∷ formulas) d h =
      (Compound c f right ∷ formulas, sym (decoded_postfix right (Combine c ∷ rest) (f ∷ formulas)) ∙ d, ((x, h.0, inr (decided, refl)), h.1))

  -- past a right operand, where the value on top decides
  pub pass_stands : (all left rest : List (Step A)) (c : Connective) (right : Formula A) (values front : List L) (x : L) → values ≡ x ∷ front → left ≡ postfix right ++ Combine c ∷ rest → decides c x → Stands all left values → Stands all rest values
  pass_stands all left rest c right values front x v l decided h =
      rw v (passed_folds all rest c right front x decided h.0 (rw l at h.1) (rw v at h.2))

  -- the one value that is left is a fold of the formula whose steps they are
  last_folds : (formulas : List (Formula A)) (values : List L) (x : L) (front : List L) → values ≡ x ∷ front → (f : Formula A) → formulas ≡ f ∷ [] → AreFolds formulas values → Folds not_of connect decides gives f x
  last_folds formulas values x front v f e h = (rw (v, e) at h).0

  pub stands_last : (all : List (Step A)) (values front : List L) (x : L) → values ≡ x ∷ front → Stands all [] values → (f : Formula A) → all ≡ postfix f → Folds not_of connect decides gives f x
  stands_last all values front x v h f same =
      last_folds h.0 values x front v f (h.1 ∙ ap (λ s. decoded s []) same ∙ decoded_whole f) h.2

  pub stands_first : (all : List (Step A)) → Stands all all []
  stands_first all = ([], refl, tt)

  -- a single leaf needs no stack
  pub leaf_folds : (all : List (Step A)) (leaf : A) (x : L) → all ≡ Push leaf ∷ [] → gives leaf x → (f : Formula A) → all ≡ postfix f → Folds not_of connect decides gives f x
  leaf_folds all leaf x one given f same =
      stands_last (Push leaf ∷ []) (x ∷ []) [] x refl (push_stands (Push leaf ∷ []) [] leaf [] (x ∷ []) x given refl (stands_first (Push leaf ∷ []))) f (sym one ∙ same)

  -- what a loop keeps: the steps that are left find their operands and leave one value, the stack has room, and its values
  -- are folds
  abbrev pub Ready : List (Step A) → List (Step A) → List L → ℕ → Type 0
  Ready all left values room =
      (leaves_one left (length values) ≡ true) × (greatest_height left (length values) ≤ room) × Stands all left values

  passed_ready : (all left rest : List (Step A)) (c : Connective) (right : Formula A) (values front : List L) (x : L) (room : ℕ) → values ≡ x ∷ front → left ≡ postfix right ++ Combine c ∷ rest → decides c x → Ready all left values room → Ready all rest values room
  passed_ready all left rest c right values front x room v l decided h =
      let runs : leaves_one (postfix right ++ Combine c ∷ rest) (suc (length front)) ≡ true = rw (l, v) at h.0 in
      let fits : greatest_height (postfix right ++ Combine c ∷ rest) (suc (length front)) ≤ room = rw (l, v) at h.1 in
      let past : greatest_height (Combine c ∷ rest) (suc (suc (length front))) ≤ greatest_height (postfix right ++ Combine c ∷ rest) (suc (length front)) = greatest_past right (Combine c ∷ rest) (suc (length front)) in (
        rw v ((and_parts (finds_operands {A = A} (Combine c) (suc (suc (length front)))) _ (sym (postfix_leaves_one right (Combine c ∷ rest) (suc (length front))) ∙ runs)).1),
        rw v (omega (arith, fits, past)),
        pass_stands all left rest c right values front x v l decided h.2,
      )

  -- a run goes on as it may
  pub advance_ready : (all left : List (Step A)) (values front : List L) (x : L) (room count : ℕ) → values ≡ x ∷ front → Advances decides left x count → Ready all left values room → Ready all (drop (count - 1) left) values room
  advance_ready all left values front x room count v (inl one) h =
      let none : count - 1 ≡ 0 = omega (arith, one) in
      rw none h
  advance_ready all left values front x room count v (inr far) h =
      let right = far.3.0 in
      let rest = far.3.1 in
      let there : drop (count - 1) left ≡ rest = past_operand far.0 right rest left (count - 1) far.3.2 (omega (arith, far.4, far.3.3)) in
      rw there (passed_ready all left rest far.0 right values front x room v far.3.2 far.2 h)
