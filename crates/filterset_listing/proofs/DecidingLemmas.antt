-- Which subjects an operand may decide, and which constants change nothing in its place.
use Rattle.std.proofs.Common.{◌≡◌, ◌↔◌, Bool, true, false, List, [], ◌∷◌, refl, Option, Some, None}
use Rattle.std.specs.{Prelude.◌&&◌, Prelude.not, Prelude.cond, Prelude.All, Bool.IsTrue, List.AllZip}
use Rattle.std.proofs.lemmas.Bool.{false≢true, and_parts, and_from}
use Rattle.std.proofs.lemmas.List.Elements.{All-nil, All-cons, All-head, All-tail}
use Rattle.filterset_faults.specs.declared.span.SourceSpan.{SourceSpan}
use Rattle.filterset_grammar.specs.Tree.{Tree}
use Rattle.filterset_listing.specs.Finding.{never, needless_by, may_still, AreDeciding}
use Rattle.filterset_listing.specs.Needless.{Frame, MayDecide, IsNeedless}
use Rattle.filterset_listing.specs.SubjectValues.{Basis, HasColumn, may_be, MaySay}
use Rattle.filterset_listing.specs.declared.subjects.Subject.{Subject}
use Rattle.filterset_listing.proofs.Values.{may_say}

denied : (d m : Bool) → not (d && m) ≡ true → d ≡ true → m ≡ true → ⊥
denied true true e h k = false≢true e
denied true false e h k = false≢true k
denied false m e h k = false≢true h

allowed : (d m : Bool) → (d ≡ true → m ≡ true → ⊥) → not (d && m) ≡ true
allowed true true f = absurd (f refl refl)
allowed true false f = refl
allowed false m f = refl

module _ (basis : Basis) where
  -- an operand beside another one that has to be this value
  pub beside_decides : (frames : List Frame) (other : Tree SourceSpan) (value : Bool) (subjects : List Subject) (deciding : List Bool) (others : List (Option Bool))
      → AreDeciding basis subjects frames deciding → HasColumn basis subjects other others
      → AllZip (λ s d. IsTrue d ↔ (MaySay basis s other value × MayDecide basis s frames)) subjects (may_still deciding others value)
  beside_decides frames other value [] [] others are all = tt
  beside_decides frames other value [] (d ∷ deciding) others are all = absurd are
  beside_decides frames other value (s ∷ subjects) [] others are all = absurd are
  beside_decides frames other value (s ∷ subjects) (d ∷ deciding) [] are all = absurd all
  beside_decides frames other value (s ∷ subjects) (d ∷ deciding) (x ∷ others) are all =
      let says = may_say basis s other x value all.0 in (
        (λ yes. let parts = and_parts d (may_be x value) yes in (says.0 parts.1, are.0.0 parts.0), λ may. and_from d (may_be x value) (are.0.1 may.1) (says.1 may.0)),
        beside_decides frames other value subjects deciding others are.1 all.1,
      )

  -- no subject that is decided by the operand hears the value from it
  abbrev IsNever : List Subject → List Frame → Tree SourceSpan → Bool → Type 0
  IsNever subjects frames e value = All (λ s. MayDecide basis s frames → ¬ MaySay basis s e value) subjects

  never_is : (frames : List Frame) (e : Tree SourceSpan) (value : Bool) (subjects : List Subject) (deciding : List Bool) (values : List (Option Bool))
      → AreDeciding basis subjects frames deciding → HasColumn basis subjects e values → never values deciding value ≡ true → IsNever subjects frames e value
  never_is frames e value [] [] values are all h = All-nil _
  never_is frames e value [] (d ∷ deciding) values are all h = absurd are
  never_is frames e value (s ∷ subjects) [] values are all h = absurd are
  never_is frames e value (s ∷ subjects) (d ∷ deciding) [] are all h = absurd all
  never_is frames e value (s ∷ subjects) (d ∷ deciding) (x ∷ values) are all h =
      let parts = and_parts (not (d && may_be x value)) (never values deciding value) h in
      All-cons (λ t. MayDecide basis t frames → ¬ MaySay basis t e value) s subjects (λ may says. denied d (may_be x value) parts.0 (are.0.1 may) ((may_say basis s e x value all.0).1 says)) (never_is frames e value subjects deciding values are.1 all.1 parts.1)

  is_never : (frames : List Frame) (e : Tree SourceSpan) (value : Bool) (subjects : List Subject) (deciding : List Bool) (values : List (Option Bool))
      → AreDeciding basis subjects frames deciding → HasColumn basis subjects e values → IsNever subjects frames e value → never values deciding value ≡ true
  is_never frames e value [] [] [] are all h = refl
  is_never frames e value [] [] (x ∷ values) are all h = absurd all
  is_never frames e value [] (d ∷ deciding) values are all h = absurd are
  is_never frames e value (s ∷ subjects) [] values are all h = absurd are
  is_never frames e value (s ∷ subjects) (d ∷ deciding) [] are all h = absurd all
  is_never frames e value (s ∷ subjects) (d ∷ deciding) (x ∷ values) are all h =
      and_from (not (d && may_be x value)) (never values deciding value)
      (allowed d (may_be x value) (λ yes may. All-head (λ t. MayDecide basis t frames → ¬ MaySay basis t e value) s subjects h (are.0.0 yes) ((may_say basis s e x value all.0).0 may)))
      (is_never frames e value subjects deciding values are.1 all.1 (All-tail (λ t. MayDecide basis t frames → ¬ MaySay basis t e value) s subjects h))

  -- what a constant that is found says of the operand
  abbrev pub Judged : List Subject → List Frame → Tree SourceSpan → Option Bool → Type 0
  Judged subjects frames e (Some false) = IsNeedless basis subjects frames e false
  Judged subjects frames e (Some true) = (¬ IsNeedless basis subjects frames e false) × IsNeedless basis subjects frames e true
  Judged subjects frames e None = (¬ IsNeedless basis subjects frames e false) × (¬ IsNeedless basis subjects frames e true)

  judged_by : (subjects : List Subject) (frames : List Frame) (e : Tree SourceSpan) (a b : Bool) → (IsTrue a ↔ IsNeedless basis subjects frames e false) → (IsTrue b ↔ IsNeedless basis subjects frames e true)
      → Judged subjects frames e (cond a (Some false) (cond b (Some true) None))
  judged_by subjects frames e true b h k = h.0 refl
  judged_by subjects frames e false true h k = ((λ n. false≢true (h.1 n)), k.0 refl)
  judged_by subjects frames e false false h k = ((λ n. false≢true (h.1 n)), (λ n. false≢true (k.1 n)))

  pub judged : (subjects : List Subject) (frames : List Frame) (e : Tree SourceSpan) (deciding : List Bool) (values : List (Option Bool))
      → AreDeciding basis subjects frames deciding → HasColumn basis subjects e values → Judged subjects frames e (needless_by values deciding)
  judged subjects frames e deciding values are all =
      judged_by subjects frames e (never values deciding true) (never values deciding false)
      (never_is frames e true subjects deciding values are all, is_never frames e true subjects deciding values are all)
      (never_is frames e false subjects deciding values are all, is_never frames e false subjects deciding values are all)
