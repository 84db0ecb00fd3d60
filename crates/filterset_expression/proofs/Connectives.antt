-- What holds of each connective, and of each operator of trees, case by case. All other proofs speak of all at once.
use Rattle.std.proofs.Common.{◌≡◌, ◌↔◌, Bool, true, false, Option, Some, None, inl, inr, ⊎_elim, refl, ◌++◌}
use Rattle.std.specs.Bool.{IsTrue}
use Rattle.std.proofs.lemmas.Bool.{false≢true}
use Rattle.filterset_expression.specs.Connectives.{Connective, Conjunction, Disjunction, ExclusiveDisjunction, ExactlyOneHolds, Connects, connected, kleene}
use Rattle.filterset_expression.specs.{Formula.Formula, Formula.leaves, Meaning.joined}
use Rattle.filterset_grammar.specs.declared.operators.Joiner.{Joiner}
use Rattle.filterset_grammar.specs.declared.operators.Joiner.TheVariants.{Both, Without, ExactlyOne}

-- of propositions that are alike it makes propositions that are alike
pub connects_alike : (c : Connective) (P Q R S : Type 0) → P ↔ R → Q ↔ S → Connects c P Q ↔ Connects c R S
connects_alike Conjunction P Q R S e k = (λ t. (e.0 t.0, k.0 t.1), λ t. (e.1 t.0, k.1 t.1))
connects_alike Disjunction P Q R S e k =
    (⊎_elim (λ p. inl (e.0 p)) (λ q. inr (k.0 q)), ⊎_elim (λ r. inl (e.1 r)) (λ s. inr (k.1 s)))
connects_alike ExclusiveDisjunction P Q R S e k = (
  ⊎_elim (λ p. inl (e.0 p.0, λ s. p.1 (k.1 s))) (λ q. inr (λ r. q.0 (e.1 r), k.0 q.1)),
  ⊎_elim (λ r. inl (e.1 r.0, λ q. r.1 (k.0 q))) (λ s. inr (λ p. s.0 (e.0 p), k.1 s.1)),
)

-- where values say whether two propositions hold, what it makes of the values says so of what it makes of the propositions
pub connected_decides : (c : Connective) (a b : Bool) (P Q : Type 0) → (IsTrue a ↔ P) → (IsTrue b ↔ Q) → (IsTrue (connected c a b) ↔ Connects c P Q)
connected_decides Conjunction true b P Q d e = (λ h. (d.0 refl, e.0 h), λ t. e.1 t.1)
connected_decides Conjunction false b P Q d e = (λ h. absurd (false≢true h), λ t. d.1 t.0)
connected_decides Disjunction true b P Q d e = (λ h. inl (d.0 refl), λ t. refl)
connected_decides Disjunction false b P Q d e =
    (λ h. inr (e.0 h), elim [ inl p ↦ absurd (false≢true (d.1 p)) | inr q ↦ e.1 q ])
connected_decides ExclusiveDisjunction true true P Q d e =
    (λ h. absurd (false≢true h), elim [ inl p ↦ absurd (p.1 (e.0 refl)) | inr q ↦ absurd (q.0 (d.0 refl)) ])
connected_decides ExclusiveDisjunction true false P Q d e =
    (λ h. inl (d.0 refl, λ q. false≢true (e.1 q)), λ one. refl)
connected_decides ExclusiveDisjunction false true P Q d e =
    (λ h. inr (λ p. false≢true (d.1 p), e.0 refl), λ one. refl)
connected_decides ExclusiveDisjunction false false P Q d e =
    (λ h. absurd (false≢true h), elim [ inl p ↦ d.1 p.0 | inr q ↦ e.1 q.1 ])

-- ---- three values

-- a value of three says whether the proposition holds, where it is known
abbrev pub Knows : Option Bool → Type 0 → Type 0
Knows None P = Unit {0}
Knows (Some b) P = IsTrue b ↔ P

-- a value of three leaves this value open
abbrev pub Allows : Option Bool → Bool → Type 0
Allows None a = Unit {0}
Allows (Some b) a = b ≡ a

-- the connective makes this value of two that are left open
abbrev pub Reaches : Connective → Option Bool → Option Bool → Bool → Type 0
Reaches c x y value = (a : Bool) × (b : Bool) × Allows x a × Allows y b × (connected c a b ≡ value)

-- a value of three that is known says what the connective makes of propositions of which its operands say what is
-- known, and one that is unknown is so because both values are reached
abbrev pub IsExact : Connective → Option Bool → Option Bool → Type 0 → Type 0 → Option Bool → Type 0
IsExact c x y P Q (Some value) = Knows x P → Knows y Q → (IsTrue value ↔ Connects c P Q)
IsExact c x y P Q None = Reaches c x y true × Reaches c x y false

pub kleene_exact : (c : Connective) (x y : Option Bool) (P Q : Type 0) → IsExact c x y P Q (kleene c x y)
kleene_exact Conjunction (Some false) y P Q = λ p q. (λ h. absurd (false≢true h), λ t. p.1 t.0)
kleene_exact Conjunction (Some true) (Some true) P Q = connected_decides Conjunction true true P Q
kleene_exact Conjunction (Some true) (Some false) P Q = connected_decides Conjunction true false P Q
kleene_exact Conjunction (Some true) None P Q = ((true, true, refl, tt, refl), (true, false, refl, tt, refl))
kleene_exact Conjunction None (Some false) P Q = λ p q. (λ h. absurd (false≢true h), λ t. q.1 t.1)
kleene_exact Conjunction None (Some true) P Q = ((true, true, tt, refl, refl), (false, true, tt, refl, refl))
kleene_exact Conjunction None None P Q = ((true, true, tt, tt, refl), (false, false, tt, tt, refl))
kleene_exact Disjunction (Some true) y P Q = λ p q. (λ h. inl (p.0 refl), λ t. refl)
kleene_exact Disjunction (Some false) (Some true) P Q = connected_decides Disjunction false true P Q
kleene_exact Disjunction (Some false) (Some false) P Q = connected_decides Disjunction false false P Q
kleene_exact Disjunction (Some false) None P Q = ((false, true, refl, tt, refl), (false, false, refl, tt, refl))
kleene_exact Disjunction None (Some true) P Q = λ p q. (λ h. inr (q.0 refl), λ t. refl)
kleene_exact Disjunction None (Some false) P Q = ((true, false, tt, refl, refl), (false, false, tt, refl, refl))
kleene_exact Disjunction None None P Q = ((true, true, tt, tt, refl), (false, false, tt, tt, refl))
kleene_exact ExclusiveDisjunction (Some a) (Some b) P Q = connected_decides ExclusiveDisjunction a b P Q
kleene_exact ExclusiveDisjunction (Some true) None P Q = ((true, false, refl, tt, refl), (true, true, refl, tt, refl))
kleene_exact ExclusiveDisjunction (Some false) None P Q = ((false, true, refl, tt, refl), (false, false, refl, tt, refl))
kleene_exact ExclusiveDisjunction None (Some true) P Q = ((false, true, tt, refl, refl), (true, true, tt, refl, refl))
kleene_exact ExclusiveDisjunction None (Some false) P Q = ((true, false, tt, refl, refl), (false, false, tt, refl, refl))
kleene_exact ExclusiveDisjunction None None P Q = ((true, false, tt, tt, refl), (true, true, tt, tt, refl))

-- ---- operators of trees

-- the leaves of what an operator makes of two formulas are those of both
pub leaves-joined : {A : Type 0} (op : Joiner) (f g : Formula A) → leaves (joined op f g) ≡ leaves f ++ leaves g
leaves-joined (Both op) f g = refl
leaves-joined (Without op) f g = refl
leaves-joined (ExactlyOne op) f g = refl

-- ---- single connectives

-- which of the two comes first is no matter
pub turned : (P Q : Type 0) → ExactlyOneHolds P Q → ExactlyOneHolds Q P
turned P Q = ⊎_elim (λ p. inr (p.1, p.0)) (λ q. inl (q.1, q.0))
