-- Folds of formulas, and what a fold by the connectives of `bool` says.
use Rattle.std.proofs.Common.{◌≡◌, ◌↔◌, Bool, true, false, not, refl, sym, ◌∙◌, inl, inr, ⊎_elim}
use Rattle.std.proofs.lemmas.Bool.{false≢true}
use Rattle.std.specs.Bool.{IsTrue}
use Rattle.filterset_expression.specs.Connectives.{Connective, Conjunction, Disjunction, ExclusiveDisjunction, Connects, Decides, connected}
use Rattle.filterset_expression.specs.Folds.{Folds}
use Rattle.filterset_expression.specs.Formula.{Formula, Leaf, Negation, Compound, TrueWhere}
use Rattle.filterset_expression.proofs.Connectives.{connected_decides}

module _ {A L : Type 0} (not_of : L → L) (connect : Connective → L → L → L) (decides : Connective → L → Type 0) where
  -- by more values of the leaves
  pub folds_more : (gives wider : A → L → Type 0) → ((leaf : A) (x : L) → gives leaf x → wider leaf x) → (f : Formula A) (value : L) → Folds not_of connect decides gives f value → Folds not_of connect decides wider f value
  folds_more gives wider step (Leaf leaf) value h = step leaf value h
  folds_more gives wider step (Negation f) value h = (h.0, folds_more gives wider step f h.0 h.1, h.2)
  folds_more gives wider step (Compound c f g) value h =
      (h.0, folds_more gives wider step f h.0 h.1, ⊎_elim (λ both. inl (both.0, folds_more gives wider step g both.0 both.1, both.2)) (λ decided. inr decided) h.2)

pub decides_not : (b : Bool) (P : Type 0) → (IsTrue b ↔ P) → (IsTrue (not b) ↔ (¬ P))
decides_not true P d = (λ e. cc, λ n. absurd (n (d.0 refl)))
decides_not false P d = (λ e p. let clash : false ≡ true = d.1 p in cc, λ n. refl)

-- a value that decides the connective says of what it makes what it says of the left operand
pub decided_truth : (c : Connective) (x : Bool) (P Q : Type 0) → Decides true false c x → (IsTrue x ↔ P) → (IsTrue x ↔ Connects c P Q)
decided_truth Conjunction x P Q e d = (λ h. absurd (false≢true (sym e ∙ h)), λ t. d.1 t.0)
decided_truth Disjunction x P Q e d = (λ h. inl (d.0 h), λ t. e)
decided_truth ExclusiveDisjunction x P Q e d = absurd e

-- where each leaf's value says whether it holds, the fold says whether the formula is true
pub fold_decides : {A : Type 0} (holds : A → Type 0) (f : Formula A) (value : Bool) → Folds not connected (Decides true false) (λ leaf b. (IsTrue b ↔ (holds leaf))) f value → (IsTrue value ↔ (TrueWhere holds f))
fold_decides holds (Leaf leaf) value h = h
fold_decides holds (Negation f) value h =
    rw h.2 (decides_not h.0 (TrueWhere holds f) (fold_decides holds f h.0 h.1))
fold_decides holds (Compound c f g) value h =
    ⊎_elim (λ both. rw both.2 (connected_decides c h.0 both.0 (TrueWhere holds f) (TrueWhere holds g) (fold_decides holds f h.0 h.1) (fold_decides holds g both.0 both.1))) (λ decided. rw decided.1 (decided_truth c h.0 (TrueWhere holds f) (TrueWhere holds g) decided.0 (fold_decides holds f h.0 h.1))) h.2
