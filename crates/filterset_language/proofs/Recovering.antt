-- One step after another, of a reader that goes on after a fault.
use Rattle.std.proofs.Common.{◌≡◌, ℕ, ◌+◌, ◌<◌, ◌≤◌, List, [], ◌∷◌, ◌++◌, length, false, true, Option, Some, None, Result, Ok, Err, refl, ap, ◌∙◌, subst, arith, ⊎_elim, length-append}
use Rattle.std.specs.Prelude.{is_some, IfOk}
use Rattle.std.proofs.lemmas.{Bool.cases_lt, List.Elements.All-append, List.Elements.All-cons, List.Elements.All-nil}
use Rattle.filterset_faults.specs.declared.error.ParseSingleError.{ParseSingleError}
use Rattle.filterset_language.specs.Parsing.Descent.{◌>>=◌}
use Rattle.filterset_language.specs.Parsing.Recovery.{Recovers, Found, Keeps}
use Rattle.filterset_language.specs.Parsing.Outcome.{Faults}

pub bind_some : {A B : Type 0} (r : Option A) (x : A) (k : A → Option B) → r ≡ Some x → (r >>= k) ≡ k x
bind_some r x k e = rw e refl

pub bind_none : {A B : Type 0} (r : Option A) (k : A → Option B) → r ≡ None → (r >>= k) ≡ None
bind_none r k e = rw e refl

-- the first step gave x, or reported a fault and went on at x
pub recovers_then : {X Y : Type 0} (f g h : Faults) (x : X) (y : Option Y) (r : Option X) (k : X → Option Y) → Recovers f g (Some x) r → Recovers g h y (k x) → Recovers f h y (r >>= k)
recovers_then f g h x y r k a b = record {
  grows = omega (arith, a.grows, b.grows);
  clean = λ same.
      let first = a.clean (omega (arith, a.grows, b.grows)) in
      let second = b.clean (omega (arith, a.grows, b.grows)) in
      (second.0 ∙ first.0, bind_some r x k first.1 ∙ second.1, second.2);
  fault = λ more.
      ⊎_elim
      (λ lt. bind_none r k (a.fault lt))
      (λ le. bind_some r x k (a.clean (omega (arith, a.grows))).1 ∙ b.fault (omega (arith, a.grows)))
      (cases_lt (length f) (length g));
}

-- the first step gave nothing
pub recovers_none : {X Y : Type 0} (f g h : Faults) (r : Option X) (k : X → Option Y) → Recovers f g None r → length g ≤ length h → Recovers f h None (r >>= k)
recovers_none f g h r k a le = record {
  grows = omega (arith, a.grows);
  clean = λ same. absurd (let e : false ≡ true = (a.clean (omega (arith, a.grows))).2 in cc);
  fault = λ more.
      ⊎_elim
      (λ lt. bind_none r k (a.fault lt))
      (λ ge. absurd (let e : false ≡ true = (a.clean (omega (arith, a.grows))).2 in cc))
      (cases_lt (length f) (length g));
}

pub recovers_as : {X : Type 0} (f g : Faults) (v w r s : Option X) → Recovers f g v r → w ≡ v → s ≡ r → Recovers f g w s
recovers_as f g v w r s a e d = rw (e, d) a

-- a fault was reported, and reading gives nothing
pub refused : {X : Type 0} (f g h : Faults) (v r : Option X) (one : ParseSingleError) → g ≡ f ++ (one ∷ []) → length g ≤ length h → r ≡ None → Recovers f h v r
refused f g h v r one e le none =
    let size : length g ≡ length f + 1 = ap length e ∙ length-append f (one ∷ []) in
    record {
      grows = omega arith;
      clean = λ same. absurd (omega arith);
      fault = λ more. none;
    }

-- ---- faults stand

pub reported : (text : List ℕ) (f g : Faults) (one : ParseSingleError) → g ≡ f ++ (one ∷ []) → Found text one → Keeps text f g
reported text f g one e found old = record { each = rw e (All-append (Found text) f (one ∷ []) old.each (All-cons (Found text) one [] found (All-nil (Found text)))) }

pub keeps_along : (t u : List ℕ) (f g : Faults) → t ≡ u → Keeps t f g → Keeps u f g
keeps_along t u f g e k = subst (λ (x : List ℕ). Keeps x f g) e k

pub keeps_then : (t u v : List ℕ) (f g h : Faults) → t ≡ v → u ≡ v → Keeps t f g → Keeps u g h → Keeps v f h
keeps_then t u v f g h e d j k = λ old. keeps_along u v g h d k (keeps_along t v f g e j old)

pub recovers_still : {X : Type 0} (f : Faults) (x : X) → Recovers f f (Some x) (Some x)
recovers_still f x = record { grows = omega arith; clean = λ same. (refl, refl, refl); fault = λ lt. absurd (omega arith) }

pub if_ok : {A E : Type 0} (r : Result A E) (P Q : A → Type 0) → ((x : A) → P x → Q x) → IfOk r P → IfOk r Q
if_ok (Ok x) P Q h p = h x p
if_ok (Err e) P Q h p = tt

pub option_none : {A : Type 0} (o : Option A) → is_some o ≡ false → o ≡ None
option_none None e = refl
option_none (Some x) e = absurd (cc)

-- ---- after a loop in which no fault was reported

pub refused_along : {X : Type 0} (old f g h : Faults) (v r : Option X) (one : ParseSingleError) → f ≡ old → g ≡ f ++ (one ∷ []) → length g ≤ length h → r ≡ None → Recovers old h v r
refused_along old f g h v r one same e le none = subst (λ (x : Faults). Recovers x h v r) same (refused f g h v r one e le none)

pub recovers_along : {X : Type 0} (old f : Faults) (x : X) (r : Option X) → f ≡ old → r ≡ Some x → Recovers old f (Some x) r
recovers_along old f x r same e =
    let size : length f ≡ length old = ap length same in
    record { grows = omega arith; clean = λ equal. (same, e, refl); fault = λ lt. absurd (omega arith) }

pub keeps_from : (t : List ℕ) (old f g : Faults) → f ≡ old → Keeps t f g → Keeps t old g
keeps_from t old f g same k = subst (λ (x : Faults). Keeps t x g) same k
