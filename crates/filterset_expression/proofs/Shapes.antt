-- Formulas of one shape, with leaves that agree, are true alike.
use Rattle.std.proofs.Common.{◌≡◌, ◌↔◌, [], Bool, ap, refl}
use Rattle.std.specs.{Prelude.◌||◌, List.list_any}
use Rattle.std.proofs.lemmas.List.Folds.{list_any-append}
use Rattle.filterset_expression.specs.Connectives.{Connects}
use Rattle.filterset_expression.specs.Formula.{Formula, Leaf, Negation, Compound, leaves, replaced, TrueWhere, SameShape}
use Rattle.filterset_expression.proofs.Connectives.{connects_alike}

module _ {A B : Type 0} (R : A → B → Type 0) (P : A → Type 0) (Q : B → Type 0) (leaves_agree : (a : A) (b : B) → R a b → P a ↔ Q b) where
  -- the same truth
  pub same_truth : (f : Formula A) (g : Formula B) → SameShape R f g → TrueWhere P f ↔ TrueWhere Q g
  same_truth (Leaf a) (Leaf b) s = leaves_agree a b s
  same_truth (Negation f) (Negation g) s = let e = same_truth f g s in (λ n q. n (e.1 q), λ n p. n (e.0 p))
  same_truth (Compound c f f') (Compound d g g') s =
      rw s.0 (connects_alike d _ _ _ _ (same_truth f g s.1) (same_truth f' g' s.2))
  same_truth _ _ s = absurd s

module _ {A B : Type 0} (R : A → B → Type 0) (p : A → Bool) (q : B → Bool) (leaves_agree : (a : A) (b : B) → R a b → p a ≡ q b) where
  -- a test of leaves passes in both or in neither
  pub same_test : (f : Formula A) (g : Formula B) → SameShape R f g → list_any p (leaves f) ≡ list_any q (leaves g)
  same_test (Leaf a) (Leaf b) s = ap (λ c. c || list_any q []) (leaves_agree a b s)
  same_test (Negation f) (Negation g) s = same_test f g s
  same_test (Compound c f f') (Compound d g g') s =
      rw (list_any-append p (leaves f) (leaves f'), list_any-append q (leaves g) (leaves g'), same_test f g s.1, same_test f' g' s.2) refl
  same_test _ _ s = absurd s

-- truth of a formula with other formulas in the place of its leaves
pub truth-replaced : {A B : Type 0} (holds : B → Type 0) (at : A → Formula B) (f : Formula A) → TrueWhere holds (replaced at f) ≡ TrueWhere (λ leaf. TrueWhere holds (at leaf)) f
truth-replaced holds at (Leaf leaf) = refl
truth-replaced holds at (Negation f) = ap (λ (P : Type 0). ¬ P) (truth-replaced holds at f)
truth-replaced holds at (Compound c f g) = λ i. Connects c (truth-replaced holds at f i) (truth-replaced holds at g i)
