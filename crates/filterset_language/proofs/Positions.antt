-- Steps over a text.
use Rattle.std.proofs.Common.{◌≡◌, ◌≢◌, ℕ, zero, ◌+◌, ◌<◌, ◌≤◌, Bool, true, false, cond, eqb, List, [], ◌∷◌, ◌++◌, length, drop, get_or, IsUtf8, IsCharBoundary, Some, None, refl, sym, ap, ◌∙◌, arith, length-drop, ⊎_elim}
use Rattle.std.specs.Prelude.{◌||◌, ◌&&◌}
use Rattle.std.proofs.lemmas.{Bool.eq-eqb, Bool.Decides.eqb_tells, Bool.Decides.nat_tests, List.drop-drop}
use Rattle.std.proofs.lemmas.Str.{is_utf8-from_IsUtf8, IsCharBoundary-after_ascii, IsCharBoundary-start}
use Rattle.filterset_language.specs.{Parsing.Front.blank_len, Parsing.Seam.IsSeam, declared.parsing.input.Input.Input}
use Rattle.filterset_language.specs.Parsing.Position.{position, position_of, behind, skip_from, IsBehind, IsAtOrBehind}
use Rattle.filterset_grammar.specs.Text.{Blanks, no_blank, space, newline, return_newline}

-- an input some bytes further
pub seam_on : (i : Input) (n : ℕ) (rest : List ℕ) → n ≤ length i.rest.now → drop n i.rest.now ≡ rest → IsUtf8 rest → IsSeam i.text.now rest (i.offset + n)
seam_on i n rest le is utf8 =
    let e = ap length i.seam.onward in
    let w = i.seam.within in
    record {
      within = omega (arith, e, w, le, length-drop i.offset i.text.now);
      onward = sym (drop-drop n i.offset i.text.now) ∙ ap (drop n) i.seam.onward ∙ is;
      utf8 = is_utf8-from_IsUtf8 rest utf8;
    }

-- the whole text
pub seam_start : (t : List ℕ) → IsUtf8 t → IsSeam t t 0
seam_start t utf8 = record { within = omega arith; onward = refl; utf8 = is_utf8-from_IsUtf8 t utf8 }

-- two inputs in one text and at one offset
pub same_position : (i j : Input) → j.text.now ≡ i.text.now → j.offset ≡ i.offset → position_of j ≡ position_of i
same_position i j text at =
    let rest : j.rest.now ≡ i.rest.now = sym j.seam.onward ∙ (λ k. drop (at k) (text k)) ∙ i.seam.onward in
    λ k. position (at k) (rest k)

pub behind_same : (w t : List ℕ) → behind w (w ++ t) ≡ Some t
behind_same [] t = refl
behind_same (b ∷ w) t = let e : eqb b b ≡ true = eq-eqb b b refl in rw e (behind_same w t)

pub behind_some : (w t u : List ℕ) → t ≡ w ++ u → behind w t ≡ Some u
behind_some w t u e = ap (behind w) e ∙ behind_same w u

pub behind_none : (w t : List ℕ) → ((u : List ℕ) → t ≢ w ++ u) → behind w t ≡ None
behind_none [] t h = absurd (h t refl)
behind_none (b ∷ w) [] h = refl
behind_none (b ∷ w) (c ∷ t) h =
    ⊎_elim
    (λ yes. rw yes.0 (behind_none w t (λ u e. h u (let f : b ≡ c = yes.1 in cc))))
    (λ no. rw no.0 refl)
    (eqb_tells b c)

-- one turn of the loop over blanks
pub skip_step : (n at : ℕ) (t : List ℕ) → n ≡ blank_len t → 0 < n → skip_from at t ≡ skip_from (at + n) (drop n t)
skip_step n at [] e p = absurd (omega arith)
skip_step n at (b ∷ []) e p = one_step ((eqb b 32) || (eqb b 10)) n at b e p
  where
    one_step : (v : Bool) (n at b : ℕ) → n ≡ cond v 1 0 → 0 < n → cond v (position (at + 1) []) (position at (b ∷ [])) ≡ skip_from (at + n) (drop n (b ∷ []))
    one_step true n at b e p = rw e refl
    one_step false n at b e p = absurd (omega arith)
skip_step n at (b ∷ c ∷ t) e p = two_step ((eqb b 32) || (eqb b 10)) ((eqb b 13) && (eqb c 10)) n at b c t e p
  where
    two_step : (v w : Bool) (n at b c : ℕ) (t : List ℕ) → n ≡ cond v 1 (cond w 2 0) → 0 < n
        → cond v (skip_from (at + 1) (c ∷ t)) (cond w (skip_from (at + 2) t) (position at (b ∷ c ∷ t))) ≡ skip_from (at + n) (drop n (b ∷ c ∷ t))
    two_step true w n at b c t e p = rw e refl
    two_step false true n at b c t e p = rw e refl
    two_step false false n at b c t e p = absurd (omega arith)

pub skip_stop : (at : ℕ) (t : List ℕ) → blank_len t ≡ 0 → skip_from at t ≡ position at t
skip_stop at [] e = refl
skip_stop at (b ∷ []) e = one_stop ((eqb b 32) || (eqb b 10)) at b e
  where
    one_stop : (v : Bool) (at b : ℕ) → cond v 1 0 ≡ zero → cond v (position (at + 1) []) (position at (b ∷ [])) ≡ position at (b ∷ [])
    one_stop true at b e = absurd (omega arith)
    one_stop false at b e = refl
skip_stop at (b ∷ c ∷ t) e = two_stop ((eqb b 32) || (eqb b 10)) ((eqb b 13) && (eqb c 10)) at b c t e
  where
    two_stop : (v w : Bool) (at b c : ℕ) (t : List ℕ) → cond v 1 (cond w 2 0) ≡ zero
        → cond v (skip_from (at + 1) (c ∷ t)) (cond w (skip_from (at + 2) t) (position at (b ∷ c ∷ t))) ≡ position at (b ∷ c ∷ t)
    two_stop true w at b c t e = absurd (omega arith)
    two_stop false true at b c t e = absurd (omega arith)
    two_stop false false at b c t e = refl

-- a text may be cut after a blank
pub blank_boundary : (n : ℕ) (t : List ℕ) → IsUtf8 t → n ≡ blank_len t → IsCharBoundary t n
blank_boundary n t utf8 e = rw e (at_blank t utf8)
  where
    one : (v : Bool) (b : ℕ) (t : List ℕ) → IsUtf8 (b ∷ t) → ((eqb b 32) || (eqb b 10)) ≡ v → (w : Bool) → (w ≡ true → 1 < length (b ∷ t) × (get_or t 0 0 ≡ 10)) → IsCharBoundary (b ∷ t) (cond v 1 (cond w 2 0))
    one true b t utf8 e w h = IsCharBoundary-after_ascii (b ∷ t) 0 utf8 (omega arith) (low b e)
      where
        low : (b : ℕ) → ((eqb b 32) || (eqb b 10)) ≡ true → b < 128
        low b e = grind (arith, nat_tests)
    one false b t utf8 e true h =
        let p = h refl in
        IsCharBoundary-after_ascii (b ∷ t) 1 utf8 p.0 (omega (arith, p.1))
    one false b t utf8 e false h = IsCharBoundary-start (b ∷ t) utf8

    two : (b c : ℕ) (t : List ℕ) → ((eqb b 13) && (eqb c 10)) ≡ true → 1 < length (b ∷ c ∷ t) × (c ≡ 10)
    two b c t e = grind (arith, nat_tests)

    at_blank : (t : List ℕ) → IsUtf8 t → IsCharBoundary t (blank_len t)
    at_blank [] utf8 = IsCharBoundary-start [] utf8
    at_blank (b ∷ []) utf8 = one _ b [] utf8 refl false (λ e. absurd cc)
    at_blank (b ∷ c ∷ t) utf8 = one _ b (c ∷ t) utf8 refl ((eqb b 13) && (eqb c 10)) (two b c t)

pub AtOrBehind-then : (a b c : Input) → IsAtOrBehind a b → IsAtOrBehind b c → IsAtOrBehind a c
AtOrBehind-then a b c ab bc = record { text = bc.text ∙ ab.text; end = bc.end ∙ ab.end; shorter = omega (arith, ab.shorter, bc.shorter) }

pub AtOrBehind-of : (a b : Input) → IsBehind a b → IsAtOrBehind a b
AtOrBehind-of a b ab = record { text = ab.text; end = ab.end; shorter = omega (arith, ab.shorter) }

pub one_blank : (t : List ℕ) → blank_len (32 ∷ t) ≡ 1
one_blank [] = refl
one_blank (b ∷ t) = refl

pub one_newline : (t : List ℕ) → blank_len (10 ∷ t) ≡ 1
one_newline [] = refl
one_newline (b ∷ t) = refl

-- after blanks stands what begins with no blank
pub skip_again : {b : List ℕ} → Blanks b → (at : ℕ) (u : List ℕ) → blank_len u ≡ 0 → skip_from at (b ++ u) ≡ position (at + length b) u
skip_again no_blank at u stop = skip_stop at u stop ∙ ap (λ (n : ℕ). position n u) (omega arith)
skip_again (space {t} r) at u stop =
    let lt : 0 < 1 = omega arith in
    skip_step 1 at (32 ∷ (t ++ u)) (sym (one_blank (t ++ u))) lt ∙ skip_again r (at + 1) u stop ∙ ap (λ (n : ℕ). position n u) (omega arith)
skip_again (newline {t} r) at u stop =
    let lt : 0 < 1 = omega arith in
    skip_step 1 at (10 ∷ (t ++ u)) (sym (one_newline (t ++ u))) lt ∙ skip_again r (at + 1) u stop ∙ ap (λ (n : ℕ). position n u) (omega arith)
skip_again (return_newline {t} r) at u stop =
    skip_again r (at + 2) u stop ∙ ap (λ (n : ℕ). position n u) (omega arith)
