-- What a formula takes is told by what its operands take, and so the value of each operator by the values of its operands.
use Rattle.std.proofs.Common.{◌≡◌, Bool, true, false, not, refl, sym, subst, ◌∙◌, Option, Some, None, List, length}
use Rattle.std.specs.Bool.{one_answer}
use Rattle.std.proofs.lemmas.Bool.{false≢true}
use Rattle.filterset_expression.specs.Connectives.{Connective, connected, kleene, kleene_not}
use Rattle.filterset_expression.specs.Formula.{Formula, Negation, Compound}
use Rattle.filterset_expression.specs.Values.{occurrences, TrueUnder, CanBe, IsAlways, IsOpen}
use Rattle.filterset_expression.proofs.Connectives.{Knows, Allows, Reaches, IsExact, kleene_exact}
use Rattle.filterset_expression.proofs.Exact.{back_length, compound_can_be, front_length, same_unless}
use Rattle.filterset_expression.proofs.Folding.{decides_not}

-- some value is left open
some_allowed : (x : Option Bool) → (a : Bool) × Allows x a
some_allowed None = (true, tt)
some_allowed (Some b) = (b, refl)

module _ {A : Type 0} (is_asked : A → Bool) (holds : A → Type 0) where
  -- the formula takes the value that is known and no other, or both where none is
  abbrev pub Takes : Formula A → Option Bool → Type 0
  Takes f (Some b) = IsAlways is_asked holds f b
  Takes f None = IsOpen is_asked holds f

  -- under a list of answers the formula cannot be other than the value says
  known : (f : Formula A) (x : Option Bool) → Takes f x → (answers : List Bool) → length answers ≡ occurrences is_asked f → ¬ (¬ Knows x (TrueUnder is_asked holds f answers))
  known f None takes answers h none = none tt
  known f (Some true) takes answers h none =
      let no : ¬ TrueUnder is_asked holds f answers = λ t. none (λ e. t, λ s. refl) in
      false≢true ((takes false).0 (answers, h, (λ e. absurd (false≢true e), λ t. absurd (no t))))
  known f (Some false) takes answers h none =
      none (λ e. absurd (false≢true e), λ t. sym ((takes true).0 (answers, h, (λ e. t, λ s. refl))))

  -- it takes each value that is left open
  allowed : (f : Formula A) (x : Option Bool) (a : Bool) → Takes f x → Allows x a → CanBe is_asked holds f a
  allowed f (Some b) a takes e = (takes a).1 (sym e)
  allowed f None true takes e = takes.0
  allowed f None false takes e = takes.1

  pub negation_takes : (f : Formula A) (x : Option Bool) → Takes f x → Takes (Negation f) (kleene_not x)
  negation_takes f None takes =
      let yes = takes.0 in
      let no = takes.1 in
      ((no.0, no.1, decides_not false _ no.2), (yes.0, yes.1, decides_not true _ yes.2))
  negation_takes f (Some b) takes = λ other. (
    λ can. same_unless other (not b) (λ apart. known f (Some b) takes can.0 can.1 (λ knows. apart (one_answer other (not b) can.2 (decides_not b _ knows)))),
    λ e. let own = (takes b).1 refl in rw e (own.0, own.1, decides_not b _ own.2),
  )

  reached : (c : Connective) (f g : Formula A) (x y : Option Bool) (value : Bool) → Takes f x → Takes g y → Reaches c x y value → CanBe is_asked holds (Compound c f g) value
  reached c f g x y value p q r =
      subst (λ v. CanBe is_asked holds (Compound c f g) v) r.4 (compound_can_be is_asked holds c f g r.0 r.1 (allowed f x r.0 p r.2) (allowed g y r.1 q r.3))

  alone : (c : Connective) (f g : Formula A) (x y : Option Bool) (value other : Bool) → ((P Q : Type 0) → IsExact c x y P Q (Some value)) → Takes f x → Takes g y → CanBe is_asked holds (Compound c f g) other → other ≡ value
  alone c f g x y value other exact p q can =
      same_unless other value (λ apart. known f x p _ (front_length is_asked holds f g can.0 can.1) (λ k. known g y q _ (back_length is_asked holds f g can.0 can.1) (λ l. apart (one_answer other value can.2 (exact _ _ k l)))))

  exact_takes : (c : Connective) (f g : Formula A) (x y z : Option Bool) → ((P Q : Type 0) → IsExact c x y P Q z) → Takes f x → Takes g y → Takes (Compound c f g) z
  exact_takes c f g x y None exact p q =
      let both = exact ⊥ ⊥ in (reached c f g x y true p q both.0, reached c f g x y false p q both.1)
  exact_takes c f g x y (Some value) exact p q = λ other. (
    alone c f g x y value other exact p q,
    λ e.
        let a = some_allowed x in
        let b = some_allowed y in
        let can = compound_can_be is_asked holds c f g a.0 b.0 (allowed f x a.0 p a.1) (allowed g y b.0 q b.1) in
        subst (λ v. CanBe is_asked holds (Compound c f g) v) (alone c f g x y value (connected c a.0 b.0) exact p q can ∙ sym e) can,
  )

  pub compound_takes : (c : Connective) (f g : Formula A) (x y : Option Bool) → Takes f x → Takes g y → Takes (Compound c f g) (kleene c x y)
  compound_takes c f g x y p q = exact_takes c f g x y (kleene c x y) (kleene_exact c x y) p q
