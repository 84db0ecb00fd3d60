-- What stands before the next `)`.
use Rattle.std.proofs.Common.{◌≡◌, ◌≢◌, ℕ, zero, suc, ◌+◌, ◌-◌, ◌<◌, ◌≤◌, true, false, Bool, cond, eqb, List, [], ◌∷◌, length, take, drop, get_or, None, refl, sym, ap, ◌∙◌, subst, arith, IsCharBoundary, ⊎_elim}
use Rattle.std.specs.Prelude.{codes, All, slice_range}
use Rattle.std.proofs.lemmas.{Bool.Decides.eqb_tells, List.Elements.All-cons, List.Elements.All-nil}
use Rattle.filterset_language.specs.Parsing.Front.{blank_len, close_len, is_white}
use Rattle.filterset_language.specs.Parsing.Position.{Position, position_of, advanced, skip, after}
use Rattle.filterset_language.specs.{Parsing.Descent.bare_end_at, declared.parsing.input.Input.Input}
use Rattle.filterset_language.proofs.Positions.{skip_stop}
use Rattle.filterset_language.specs.Faults.{EndsText, comma, closed, ClosesArgument, at_end, at_close}

pub close_within : (t : List ℕ) → close_len t ≤ length t
close_within [] = omega arith
close_within (b ∷ t) = with_test (eqb b 41) (close_within t)
  where
    with_test : (v : Bool) → close_len t ≤ length t → cond v 0 (suc (close_len t)) ≤ length (b ∷ t)
    with_test true h = omega arith
    with_test false h = omega arith

pub close_behind : (t : List ℕ) → ClosesArgument (drop (close_len t) t)
close_behind [] = at_end
close_behind (b ∷ t) =
    ⊎_elim
    (λ yes. rw yes.0 (subst (λ (x : ℕ). ClosesArgument (x ∷ t)) (sym yes.1) at_close))
    (λ no. rw no.0 (close_behind t))
    (eqb_tells b 41)

pub close_none : (t : List ℕ) → All (λ b. b ≢ 41) (take (close_len t) t)
close_none [] = All-nil (λ (b : ℕ). b ≢ 41)
close_none (b ∷ t) =
    ⊎_elim
    (λ yes. rw yes.0 (All-nil (λ (b : ℕ). b ≢ 41)))
    (λ no. rw no.0 (All-cons (λ (b : ℕ). b ≢ 41) b (take (close_len t) t) (λ e. let f : true ≡ false = sym (rw e refl) ∙ no.0 in cc) (close_none t)))
    (eqb_tells b 41)

-- the byte after, where there is one, is a `)`
close_low : (t : List ℕ) → ClosesArgument t → 0 < length t → get_or t 0 0 < 128
close_low _ at_end lt = absurd (omega arith)
close_low _ at_close lt = lit_low
  where
    lit_low : 41 < 128
    lit_low = omega arith

low_at : (t : List ℕ) (n : ℕ) → ClosesArgument (drop n t) → n < length t → get_or t n 0 < 128
low_at t zero h lt = close_low t h lt
low_at [] (suc n) h lt = absurd (omega arith)
low_at (b ∷ t) (suc n) h lt = low_at t n h (omega arith)

pub close_boundary : (n : ℕ) (t : List ℕ) → n ≡ close_len t → IsCharBoundary t n
close_boundary n t e = rw e (close_within t, λ lt high. let low = low_at t (close_len t) (close_behind t) lt in absurd (omega arith))

pub closes_stop : (t : List ℕ) → ClosesArgument t → blank_len t ≡ 0
closes_stop _ at_end = refl
closes_stop _ (at_close {t}) = first t
  where
    first : (t : List ℕ) → blank_len (41 ∷ t) ≡ 0
    first [] = refl
    first (b ∷ t) = refl

-- nor does what ends a text
pub ends_stop : (t : List ℕ) → EndsText t → blank_len t ≡ 0
ends_stop _ (comma {t}) = first t
  where
    first : (t : List ℕ) → blank_len (44 ∷ t) ≡ 0
    first [] = refl
    first (b ∷ t) = refl
ends_stop _ (closed h) = closes_stop _ h

-- how many bytes stand between two positions
pub count_is : (i e : Input) (n : ℕ) → position_of e ≡ advanced n (position_of i) → e.offset - i.offset ≡ n
count_is i e n is = let at : e.offset ≡ i.offset + n = ap (λ (p : Position). p.at) is in omega arith

-- at a `)` or the end no blank is skipped
close_skipped : (p : Position) → skip (advanced (close_len p.rest) p) ≡ advanced (close_len p.rest) p
close_skipped p = skip_stop (p.at + close_len p.rest) (drop (close_len p.rest) p.rest) (closes_stop _ (close_behind p.rest))

pub bare_end_is : (p e : Position) → e ≡ advanced (close_len p.rest) p → is_white (take (close_len p.rest) p.rest) ≡ true → after (codes ")") (skip e) ≡ bare_end_at p
bare_end_is p e is white = rw (is, white) (ap (after (codes ")")) (close_skipped p))

pub bare_end_none : (p : Position) → is_white (take (close_len p.rest) p.rest) ≡ false → bare_end_at p ≡ None
bare_end_none p black = rw black refl

-- the piece that a range of a text cuts off before the next `)`
pub front_is : (t r : List ℕ) (n : ℕ) → r ≡ slice_range t 0 n → n ≡ close_len t → r ≡ take (close_len t) t
front_is t r n is e =
    let z : n - 0 ≡ n = omega arith in
    is ∙ ap (λ (k : ℕ). take k t) (z ∙ e)
