-- A run keeps what is known of the formulas on the stack.
use Rattle.std.proofs.Common.{◌≡◌, Bool, true, false, Option, Some, None, refl, sym, ◌∙◌, ap, subst, List, [], ◌∷◌, ◌++◌, map, append_assoc, inl, inr, ⊎_elim, IsTrue}
use Rattle.std.specs.List.{AllZip}
use Rattle.std.proofs.lemmas.{Bool.false≢true, List.append-nil, List.reverse-reverse}
use Rattle.std.proofs.lemmas.Option.{none-some as no_stack, same_Some as same_stack}
use mathlib.Core.List.{reverse, reverse_aux}
use Rattle.filterset_expression.specs.Connectives.{Connects, kleene, kleene_not}
use Rattle.filterset_expression.specs.declared.logic.Connective.{Connective}
use Rattle.filterset_expression.specs.declared.logic.Connective.TheVariants.{Conjunction, Disjunction, ExclusiveDisjunction}
use Rattle.filterset_expression.specs.Expression.{CompiledLeaf}
use Rattle.filterset_expression.specs.FlatSteps.{Step, Push, Negate, Combine, step_of}
use Rattle.filterset_expression.specs.Formula.{Formula, Leaf, Negation, Compound, TrueWhere}
use Rattle.filterset_expression.proofs.{Connectives.connected_decides, Decoding.decoded, Decoding.decoded_postfix}
use Rattle.filterset_deciding.specs.AnyTest.{AnyTest, Says}
use Rattle.filterset_deciding.specs.Known.{IsKnown, IsKnownStep, Agrees, steps_in}
use Rattle.filterset_deciding.specs.Running.{kleene_step, kleene_run, on_stack, tops}
use Rattle.filterset_deciding.specs.Searching.{all_steps}
use Rattle.filterset_deciding.specs.declared.running.{ValuedStep.ValuedStep, StackValue.StackValue}

never : {P : Type 0} → IsTrue false → P
never e = absurd (false≢true e)

pub not_known : (v : Option Bool) (P : Type 0) → IsKnown v P → IsKnown (kleene_not v) (¬ P)
not_known None P k = tt
not_known (Some true) P k = (λ e. never e, λ n. absurd (n (k.0 refl)))
not_known (Some false) P k = (λ e p. never (k.1 p), λ n. refl)

pub kleene_known : (c : Connective) (x y : Option Bool) (P Q : Type 0) → IsKnown x P → IsKnown y Q → IsKnown (kleene c x y) (Connects c P Q)
kleene_known Conjunction (Some false) y P Q j k = (λ e. never e, λ h. j.1 h.0)
kleene_known Conjunction (Some true) None P Q j k = tt
kleene_known Conjunction (Some true) (Some b) P Q j k = (λ e. (j.0 refl, k.0 e), λ h. k.1 h.1)
kleene_known Conjunction None (Some false) P Q j k = (λ e. never e, λ h. k.1 h.1)
kleene_known Conjunction None (Some true) P Q j k = tt
kleene_known Conjunction None None P Q j k = tt
kleene_known Disjunction (Some true) y P Q j k = (λ e. inl (j.0 refl), λ h. refl)
kleene_known Disjunction (Some false) None P Q j k = tt
kleene_known Disjunction (Some false) (Some b) P Q j k = (λ e. inr (k.0 e), ⊎_elim (λ p. never (j.1 p)) (λ q. k.1 q))
kleene_known Disjunction None (Some true) P Q j k = (λ e. inr (k.0 refl), λ h. refl)
kleene_known Disjunction None (Some false) P Q j k = tt
kleene_known Disjunction None None P Q j k = tt
kleene_known ExclusiveDisjunction None y P Q j k = tt
kleene_known ExclusiveDisjunction (Some x) None P Q j k = tt
kleene_known ExclusiveDisjunction (Some x) (Some y) P Q j k = connected_decides ExclusiveDisjunction x y P Q j k

-- each value is known of the formula at its position
abbrev pub AreKnown : AnyTest → List (Formula CompiledLeaf) → List (Option Bool) → Type 0
AreKnown test formulas values = AllZip (λ f v. IsKnown v (TrueWhere (Says test) f)) formulas values

module _ (test : AnyTest) where
  -- what a step leaves, for the steps after it
  abbrev Goes : Step CompiledLeaf → List (Step CompiledLeaf) → List (Formula CompiledLeaf) → List (Option Bool) → Type 0
  Goes s rest formulas next =
      (after : List (Formula CompiledLeaf)) × (decoded (s ∷ rest) formulas ≡ decoded rest after) × AreKnown test after next

  step_known : (s : Step CompiledLeaf) (v : Option Bool) (rest : List (Step CompiledLeaf)) (formulas : List (Formula CompiledLeaf)) (stack next : List (Option Bool))
      → IsKnownStep test s v → AreKnown test formulas stack → kleene_step s v stack ≡ Some next → Goes s rest formulas next
  step_known (Push leaf) v rest formulas stack next k are e =
      (Leaf leaf ∷ formulas, refl, subst (AreKnown test (Leaf leaf ∷ formulas)) (same_stack (v ∷ stack) next e) (k, are))
  step_known Negate v rest formulas [] next k are e = absurd (no_stack next e)
  step_known Negate v rest [] (x ∷ stack) next k are e = absurd are
  step_known Negate v rest (f ∷ formulas) (x ∷ stack) next k are e =
      (Negation f ∷ formulas, refl, subst (AreKnown test (Negation f ∷ formulas)) (same_stack (kleene_not x ∷ stack) next e) (not_known x (TrueWhere (Says test) f) are.0, are.1))
  step_known (Combine c) v rest formulas [] next k are e = absurd (no_stack next e)
  step_known (Combine c) v rest formulas (y ∷ []) next k are e = absurd (no_stack next e)
  step_known (Combine c) v rest [] (y ∷ x ∷ stack) next k are e = absurd are
  step_known (Combine c) v rest (g ∷ []) (y ∷ x ∷ stack) next k are e = absurd are.1
  step_known (Combine c) v rest (g ∷ f ∷ formulas) (y ∷ x ∷ stack) next k are e =
      (Compound c f g ∷ formulas, refl, subst (AreKnown test (Compound c f g ∷ formulas)) (same_stack (kleene c x y ∷ stack) next e) (kleene_known c x y (TrueWhere (Says test) f) (TrueWhere (Says test) g) are.1.0 are.0, are.1.1))

  -- a step, and the run of the others
  on_known : (s : Step CompiledLeaf) (v : Option Bool) (rest : List ValuedStep) (formulas : List (Formula CompiledLeaf)) (stack out : List (Option Bool))
      → ((after : List (Formula CompiledLeaf)) (next : List (Option Bool)) → AreKnown test after next → kleene_run rest next ≡ Some out → AreKnown test (decoded (steps_in rest) after) out)
      → IsKnownStep test s v → AreKnown test formulas stack
      → (o : Option (List (Option Bool))) → kleene_step s v stack ≡ o → on_stack (λ x. kleene_run rest x) o ≡ Some out
      → AreKnown test (decoded (s ∷ steps_in rest) formulas) out
  on_known s v rest formulas stack out others k are None made e = absurd (no_stack out e)
  on_known s v rest formulas stack out others k are (Some next) made e =
      let goes = step_known s v (steps_in rest) formulas stack next k are made in
      subst (λ fs. AreKnown test fs out) (sym goes.1) (others goes.0 next goes.2 e)

  pub run_known : (placed : List ValuedStep) (out : List (Option Bool)) → Agrees test placed
      → (formulas : List (Formula CompiledLeaf)) (stack : List (Option Bool)) → AreKnown test formulas stack
      → kleene_run placed stack ≡ Some out → AreKnown test (decoded (steps_in placed) formulas) out
  run_known [] out agrees formulas stack are e = subst (AreKnown test formulas) (same_stack stack out e) are
  run_known (p ∷ placed) out agrees formulas stack are e =
      on_known (step_of p.step) p.value placed formulas stack out
      (λ after next. run_known placed out agrees.1 after next)
      agrees.0 are (kleene_step (step_of p.step) p.value stack) refl e

-- formulas one after the other
decoded_all : (formulas : List (Formula CompiledLeaf)) (rest : List (Step CompiledLeaf)) (stack : List (Formula CompiledLeaf))
    → decoded (all_steps formulas ++ rest) stack ≡ decoded rest (reverse_aux formulas stack)
decoded_all [] rest stack = refl
decoded_all (f ∷ formulas) rest stack =
    rw append_assoc (decoded_postfix f (all_steps formulas ++ rest) stack ∙ decoded_all formulas rest (f ∷ stack))

decoded_alone : (formulas : List (Formula CompiledLeaf)) → decoded (all_steps formulas) [] ≡ reverse formulas
decoded_alone formulas =
    subst (λ s. decoded s [] ≡ reverse formulas) (append-nil (all_steps formulas)) (decoded_all formulas [] [])

turned_onto : {A B : Type 0} (R : A → B → Type 0) (xs front : List A) (ys bs : List B) → AllZip R xs ys → AllZip R front bs → AllZip R (reverse_aux xs front) (reverse_aux ys bs)
turned_onto R [] front [] bs all more = more
turned_onto R [] front (y ∷ ys) bs all more = absurd all
turned_onto R (x ∷ xs) front [] bs all more = absurd all
turned_onto R (x ∷ xs) front (y ∷ ys) bs all more = turned_onto R xs (x ∷ front) ys (y ∷ bs) all.1 (all.0, more)

turned_back : {A B : Type 0} (R : A → B → Type 0) (xs : List A) (ys : List B) → AllZip R (reverse xs) (reverse ys) → AllZip R xs ys
turned_back R xs ys all =
    let twice = turned_onto R (reverse xs) [] (reverse ys) [] all tt in
    let first : AllZip R xs (reverse (reverse ys)) = subst (λ zs. AllZip R zs (reverse (reverse ys))) (reverse-reverse xs) twice in
    subst (λ zs. AllZip R xs zs) (reverse-reverse ys) first

-- the values that a branch leaves are known of the formulas whose steps it has
pub values_known : (test : AnyTest) (placed : List ValuedStep) (formulas : List (Formula CompiledLeaf)) (seen : List StackValue)
    → Agrees test placed → steps_in placed ≡ all_steps formulas → kleene_run placed [] ≡ Some (tops seen)
    → AreKnown test formulas (map (λ s. s.value) seen)
values_known test placed formulas seen agrees made ran =
    let known = run_known test placed (tops seen) agrees [] [] tt ran in
    let whole : decoded (steps_in placed) [] ≡ reverse formulas = ap (λ s. decoded s []) made ∙ decoded_alone formulas in
    turned_back (λ f v. IsKnown v (TrueWhere (Says test) f)) formulas (map (λ s. s.value) seen) (subst (λ fs. AreKnown test fs (tops seen)) whole known)
