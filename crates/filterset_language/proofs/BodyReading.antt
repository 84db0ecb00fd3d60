-- Bodies of regular expressions: what is written is read, and what is read is written.
use Rattle.std.proofs.Common.{◌≡◌, ℕ, suc, ◌+◌, ◌<◌, ◌≤◌, Bool, true, false, cond, eqb, List, [], ◌∷◌, ◌++◌, length, take, drop, get_or, IsCharBoundary, Some, refl, sym, ap, ◌∙◌, subst, arith, length-append, ◌-◌}
use Rattle.std.specs.Prelude.{◌&&◌, not, slice_range}
use Rattle.std.proofs.lemmas.Bool.{eqb-false, Decides.nat_tests}
use Rattle.std.proofs.lemmas.List.{take-append-drop, take_at, drop_at, length-take}
use Rattle.std.proofs.{lemmas.Str.IsCharBoundary-from_rest, Math.Seq.get_or-append_seam}
use Rattle.filterset_faults.specs.{Span.span, declared.span.SourceSpan.SourceSpan}
use Rattle.filterset_faults.specs.declared.error.ParseSingleError.TheVariants.{InvalidRegexWithoutMessage}
use Rattle.filterset_grammar.specs.Text.{SlashesFollow, ends_in_backslash, with_slashes, Body}
use Rattle.filterset_matchers.specs.Pattern.{MayBeRejected}
use Rattle.filterset_language.specs.Parsing.Position.{Position, position, position_of, advanced, after}
use Rattle.filterset_language.specs.Parsing.RawTexts.{body_len, body_by, body_at, BodyTaken}
use Rattle.filterset_language.specs.Faults.{piece, EndsWith}
use Rattle.filterset_language.specs.{Parsing.Recovery.Found, declared.parsing.input.Input.Input}
use Rattle.filterset_language.proofs.{StepsTakeText.after_takes, EscapeReading.map_is, Formed.ends_front}
use Rattle.filterset_language.proofs.RawTextFaults.{size, begins_here}

pub body_within : (before : ℕ) (t : List ℕ) → body_len before t ≤ length t
body_within before [] = omega arith
body_within before (b ∷ t) = with_test (eqb b 47 && not (eqb before 92)) (body_within b t)
  where
    with_test : (v : Bool) → body_len b t ≤ length t → cond v 0 (suc (body_len b t)) ≤ length (b ∷ t)
    with_test true h = omega arith
    with_test false h = omega arith

slash_is : (b before : ℕ) → (eqb b 47 && not (eqb before 92)) ≡ true → (b ≡ 47) × (eqb before 92 ≡ false)
slash_is b before e = grind (arith, nat_tests)

slash_follows : (b before : ℕ) → (eqb b 47 && not (eqb before 92)) ≡ false → b ≡ 47 → before ≡ 92
slash_follows b before e is = grind (arith, nat_tests)

-- after a body, where the text goes on, a `/` stands
body_stop : (before : ℕ) (t : List ℕ) → body_len before t < length t → get_or t (body_len before t) 0 < 128
body_stop before [] lt = absurd (omega arith)
body_stop before (b ∷ t) lt = from (eqb b 47 && not (eqb before 92)) refl lt (λ h. body_stop b t h)
  where
    from : (v : Bool) → (eqb b 47 && not (eqb before 92)) ≡ v → cond v 0 (suc (body_len b t)) < length (b ∷ t) → (body_len b t < length t → get_or t (body_len b t) 0 < 128)
        → get_or (b ∷ t) (cond v 0 (suc (body_len b t))) 0 < 128
    from true e lt h = let s = (slash_is b before e).0 in omega arith
    from false e lt h = h (omega arith)

-- a text may be cut after a body
pub body_boundary : (n : ℕ) (t : List ℕ) → n ≡ body_len 0 t → IsCharBoundary t n
body_boundary n t e = rw e (body_within 0 t, λ lt high. let low = body_stop 0 t lt in absurd (omega arith))

-- ---- what is written is read

body_again : (before : ℕ) (body u : List ℕ) → SlashesFollow before body → ends_in_backslash (before ∷ body) ≡ false → body_len before (body ++ (47 ∷ u)) ≡ length body
body_again before [] u slashes end = rw end refl
body_again before (b ∷ body) u slashes end =
    from (eqb b 47 && not (eqb before 92)) refl (body_again b body u slashes.1 end)
  where
    from : (v : Bool) → (eqb b 47 && not (eqb before 92)) ≡ v → body_len b (body ++ (47 ∷ u)) ≡ length body → cond v 0 (suc (body_len b (body ++ (47 ∷ u)))) ≡ suc (length body)
    from true e on =
        let s = slash_is b before e in
        absurd (eqb-false before 92 s.1 (slashes.0 s.0))
    from false e on = ap suc on

pub regex_again : (at : ℕ) (body pattern u : List ℕ) → Body body pattern → body_at (position at (body ++ (47 ∷ u))) ≡ Some ((pattern, span at (length body)), position (at + length body + 1) u)
regex_again at body pattern u is =
    let n = body_again 0 body u is.slashes (ends_front body ∙ is.end) in
    let t : take (length body) (body ++ (47 ∷ u)) ≡ body = take_at body (47 ∷ u) (length body) refl in
    let d : drop (length body) (body ++ (47 ∷ u)) ≡ 47 ∷ u = drop_at body (47 ∷ u) (length body) refl in
    let step : body_by (length body) (position at (body ++ (47 ∷ u))) ≡ Some ((with_slashes body, span at (length body)), position (at + length body + 1) u) = rw (t, d) refl in
    ap (λ (k : ℕ). body_by k (position at (body ++ (47 ∷ u)))) n ∙ step
    ∙ ap (λ (x : List ℕ). Some ((x, span at (length body)), position (at + length body + 1) u)) (sym is.replaced)

-- ---- what is read is written

body_slashes : (before : ℕ) (t : List ℕ) → SlashesFollow before (take (body_len before t) t)
body_slashes before [] = tt
body_slashes before (b ∷ t) = from (eqb b 47 && not (eqb before 92)) refl (body_slashes b t)
  where
    from : (v : Bool) → (eqb b 47 && not (eqb before 92)) ≡ v → SlashesFollow b (take (body_len b t) t) → SlashesFollow before (take (cond v 0 (suc (body_len b t))) (b ∷ t))
    from true e on = tt
    from false e on = (slash_follows b before e, on)

body_ends : (before : ℕ) (t u : List ℕ) → drop (body_len before t) t ≡ 47 ∷ u → ends_in_backslash (before ∷ take (body_len before t) t) ≡ false
body_ends before [] u e = absurd cc
body_ends before (b ∷ t) u e = from (eqb b 47 && not (eqb before 92)) refl (λ f. body_ends b t u f) e
  where
    from : (v : Bool) → (eqb b 47 && not (eqb before 92)) ≡ v → (drop (body_len b t) t ≡ 47 ∷ u → ends_in_backslash (b ∷ take (body_len b t) t) ≡ false) → drop (cond v 0 (suc (body_len b t))) (b ∷ t) ≡ 47 ∷ u → ends_in_backslash (before ∷ take (cond v 0 (suc (body_len b t))) (b ∷ t)) ≡ false
    from true h on e = (slash_is b before h).1
    from false h on e = on e

pub regex_takes : (p : Position) (pattern : List ℕ) (s : SourceSpan) (q : Position) → body_at p ≡ Some ((pattern, s), q) → BodyTaken p pattern s q
regex_takes p pattern s q e =
    let n = body_len 0 p.rest in
    let m = map_is (after (47 ∷ []) (advanced n p)) (λ (x : Position). ((with_slashes (take n p.rest), span p.at n), x)) ((pattern, s), q) e in
    let k : m.0 ≡ q = ap (λ (x : (List ℕ × SourceSpan) × Position). x.1) m.2 in
    let first : with_slashes (take n p.rest) ≡ pattern = ap (λ (x : (List ℕ × SourceSpan) × Position). x.0.0) m.2 in
    let second : span p.at n ≡ s = ap (λ (x : (List ℕ × SourceSpan) × Position). x.0.1) m.2 in
    let t = after_takes (47 ∷ []) (advanced n p) q (m.1 ∙ ap Some k) in
    let within = body_within 0 p.rest in
    let size : length (take n p.rest) ≡ n = omega (arith, length-take n p.rest) in
    record {
      body = take n p.rest;
      is = record { slashes = body_slashes 0 p.rest; end = sym (ends_front (take n p.rest)) ∙ body_ends 0 p.rest q.rest t.parts; replaced = sym first };
      parts = sym (take-append-drop n p.rest) ∙ ap (λ (x : List ℕ). take n p.rest ++ x) t.parts;
      offset = let o = t.offset in omega arith;
      span_is = sym second ∙ ap (span p.at) (sym size);
    }

-- the body that the code cuts off
pub body_read : (i e r : Input) (count : ℕ) (pattern cut : List ℕ) (s : SourceSpan) → count ≡ body_len 0 i.rest.now → position_of e ≡ advanced count (position_of i) → Some (position_of r) ≡ after (47 ∷ []) (position_of e)
    → cut ≡ slice_range i.rest.now 0 count → pattern ≡ with_slashes cut → s ≡ span i.offset (e.offset - i.offset) → body_at (position_of i) ≡ Some ((pattern, s), position_of r)
body_read i e r count pattern cut s counted at stands cut_is pattern_is span_is =
    let t = i.rest.now in
    let n = body_len 0 t in
    let front : cut ≡ take n t = let z : count - 0 ≡ n = omega (arith, counted) in cut_is ∙ ap (λ (k : ℕ). take k t) z in
    let end : position_of e ≡ advanced n (position_of i) = at ∙ ap (λ (k : ℕ). advanced k (position_of i)) counted in
    let size : e.offset - i.offset ≡ n = let o : e.offset ≡ i.offset + n = ap (λ (p : Position). p.at) end in omega arith in
    let first : with_slashes (take n t) ≡ pattern = ap with_slashes (sym front) ∙ sym pattern_is in
    let second : span i.offset n ≡ s = ap (span i.offset) (sym size) ∙ sym span_is in
    let found : after (47 ∷ []) (advanced n (position_of i)) ≡ Some (position_of r) = ap (after (47 ∷ [])) (sym end) ∙ sym stands in
    rw (found, first, second) refl

-- the body is what its span cuts off
pub body_piece : (i : Input) (pattern : List ℕ) (s : SourceSpan) (q : Position) → BodyTaken (position_of i) pattern s q → Body (piece i.text.now s) pattern
body_piece i pattern s q t =
    let n = length t.body in
    let cut : take n (drop i.offset i.text.now) ≡ t.body = ap (take n) (i.seam.onward ∙ t.parts) ∙ take_at t.body (47 ∷ q.rest) n refl in
    subst (λ (x : SourceSpan). Body (piece i.text.now x) pattern) (sym t.span_is) (subst (λ (x : List ℕ). Body x pattern) (sym cut) t.is)

-- a plain byte stands between two characters
seam_between : (front : List ℕ) (b : ℕ) (rest : List ℕ) → b < 128 → IsCharBoundary (front ++ (b ∷ rest)) (length front)
seam_between front b rest low = (omega (arith, length-append front (b ∷ rest)), λ lt high. let is = get_or-append_seam front b rest 0 in absurd (omega (arith, is)))

-- a body that is refused, where a `/` stands before it
pub refused_body_found : (i : Input) (pattern : List ℕ) (s : SourceSpan) (q : Position) → EndsWith (take i.offset i.text.now) (47 ∷ []) → BodyTaken (position_of i) pattern s q → MayBeRejected pattern → Found i.text.now (InvalidRegexWithoutMessage s)
refused_body_found i pattern s q slash t rejected =
    let n = length t.body in
    let onward : drop i.offset i.text.now ≡ t.body ++ (47 ∷ q.rest) = i.seam.onward ∙ t.parts in
    let cut : take n (drop i.offset i.text.now) ≡ t.body = ap (take n) onward ∙ take_at t.body (47 ∷ q.rest) n refl in
    let behind : drop n (drop i.offset i.text.now) ≡ 47 ∷ q.rest = ap (drop n) onward ∙ drop_at t.body (47 ∷ q.rest) n refl in
    let all = size i in
    let long = ap length t.parts in
    let both = length-append t.body (47 ∷ q.rest) in
    subst
    (λ (x : SourceSpan). Found i.text.now (InvalidRegexWithoutMessage x))
    (sym t.span_is)
    (record {
      stands = record {
        within = omega arith;
        begins = begins_here i;
        ends = IsCharBoundary-from_rest i.text.now i.offset n i.seam.within (rw onward (seam_between t.body 47 q.rest (omega arith)));
        there = ((pattern, subst (λ (x : List ℕ). Body x pattern) (sym cut) t.is, rejected), slash, record { rest = q.rest; parts = behind });
      };
      inside = refl;
    })
