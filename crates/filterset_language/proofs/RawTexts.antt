-- Raw texts: what is spelled is read, and what is read is spelled.
use Rattle.std.proofs.Common.{◌≡◌, ◌≢◌, ℕ, zero, suc, ◌+◌, ◌-◌, ◌<◌, ◌≤◌, Bool, true, false, cond, eqb, List, [], ◌∷◌, ◌++◌, length, take, drop, get_or, IsCharBoundary, Option, Some, None, refl, sym, ap, ◌∙◌, subst, arith, append_assoc, length-append, ⊎_elim}
use Rattle.std.specs.{Prelude.encode_utf8, Option.option_and_then}
use Rattle.std.proofs.lemmas.Bool.{ne_eqb, eqb-true, Decides.eqb_tells, Decides.nat_tests}
use Rattle.std.proofs.Math.Seq.{drop-nil}
use Rattle.std.proofs.lemmas.List.{append-nil, take-append-drop, drop_at, length-take}
use Rattle.std.proofs.lemmas.Str.{length-encode, len_utf8_bounds}
use Rattle.filterset_grammar.specs.Text.{is_plain, Spelled, nothing, plain, escaped}
use Rattle.filterset_language.specs.Parsing.Position.{Position, position, advanced, after}
use Rattle.filterset_language.specs.Parsing.Escapes.{escape_at}
use Rattle.filterset_language.specs.Parsing.RawTexts.{plain_len, behind_value, raw_from, unless_empty, raw_at, SpelledTo, TextTaken}
use Rattle.filterset_language.specs.Faults.{EndsText, comma, closed, at_end, at_close}
use Rattle.filterset_language.proofs.StepsTakeText.{after_takes}
use Rattle.filterset_language.proofs.EscapeReading.{and_then_is, map_is, none_some, some_same, escape_again, escape_takes}

-- ---- the front of a raw text

-- the byte after the front, where there is one, does not stand for itself
plain_stop : (t : List ℕ) → plain_len t < length t → get_or t (plain_len t) 0 < 128
plain_stop [] lt = absurd (omega arith)
plain_stop (b ∷ t) lt = at_test (is_plain b) b t refl lt (λ h. plain_stop t h)
  where
    low : (b : ℕ) → is_plain b ≡ false → b < 128
    low b e = grind (arith, nat_tests)

    at_test : (v : Bool) (b : ℕ) (t : List ℕ) → is_plain b ≡ v → cond v (suc (plain_len t)) 0 < length (b ∷ t) → (plain_len t < length t → get_or t (plain_len t) 0 < 128) → get_or (b ∷ t) (cond v (suc (plain_len t)) 0) 0 < 128
    at_test true b t e lt h = h (omega arith)
    at_test false b t e lt h = low b e

pub plain_within : (t : List ℕ) → plain_len t ≤ length t
plain_within [] = omega arith
plain_within (b ∷ t) = with_test (is_plain b) (plain_within t)
  where
    with_test : (v : Bool) → plain_len t ≤ length t → cond v (suc (plain_len t)) 0 ≤ length (b ∷ t)
    with_test true h = omega arith
    with_test false h = omega arith

-- a text may be cut after the front of a raw text
pub plain_boundary : (n : ℕ) (t : List ℕ) → n ≡ plain_len t → IsCharBoundary t n
plain_boundary n t e = rw e (plain_within t, λ lt high. let low = plain_stop t lt in absurd (omega arith))

-- after the front stands nothing more that stands for itself
pub plain_rest : (t : List ℕ) → plain_len (drop (plain_len t) t) ≡ 0
plain_rest [] = refl
plain_rest (b ∷ t) = at_test (is_plain b) refl (plain_rest t)
  where
    at_test : (v : Bool) → is_plain b ≡ v → plain_len (drop (plain_len t) t) ≡ 0 → plain_len (drop (cond v (suc (plain_len t)) 0) (b ∷ t)) ≡ 0
    at_test true e on = on
    at_test false e on = rw e refl

-- the front spells itself
pub plain_spelled : (t : List ℕ) → Spelled (take (plain_len t) t) (take (plain_len t) t)
plain_spelled [] = nothing
plain_spelled (b ∷ t) = at_test (is_plain b) refl (plain_spelled t)
  where
    at_test : (v : Bool) → is_plain b ≡ v → Spelled (take (plain_len t) t) (take (plain_len t) t) → Spelled (take (cond v (suc (plain_len t)) 0) (b ∷ t)) (take (cond v (suc (plain_len t)) 0) (b ∷ t))
    at_test true e on = plain e on
    at_test false e on = nothing

-- where nothing stands for itself and no backslash stands, a raw text ends
pub text_ends : (at : ℕ) (t : List ℕ) → plain_len t ≡ 0 → None ≡ after (92 ∷ []) (position at t) → EndsText t
text_ends at [] stops none = closed at_end
text_ends at (b ∷ t) stops none =
    ⊎_elim
    (λ is. subst (λ (x : ℕ). EndsText (x ∷ t)) (sym is.1) comma)
    (λ no44. ⊎_elim
    (λ is. subst (λ (x : ℕ). EndsText (x ∷ t)) (sym is.1) (closed at_close))
    (λ no41. ⊎_elim
    (λ is. absurd (none_some (position (at + 1) t) (none ∙ ap (λ (x : ℕ). after (92 ∷ []) (position at (x ∷ t))) is.1)))
    (λ no92. absurd (let f : suc (plain_len t) ≡ 0 = rw (no44.0, no41.0, no92.0) at stops in omega arith))
    (eqb_tells b 92))
    (eqb_tells b 41))
    (eqb_tells b 44)

-- ---- pieces of raw texts

pub spelled_append : {first v : List ℕ} (last w : List ℕ) → Spelled first v → Spelled last w → Spelled (first ++ last) (v ++ w)
spelled_append last w nothing y = y
spelled_append last w (plain {b} {raw} {value} is x) y = plain is (spelled_append last w x y)
spelled_append last w (escaped {more} {raw} {value} {c} e is x same) y =
    subst
    (λ (t : List ℕ). Spelled (92 ∷ (more ++ last)) t)
    (sym (append_assoc (encode_utf8 c) value w))
    (escaped e is (spelled_append last w x y) (ap (λ (t : List ℕ). t ++ last) same ∙ append_assoc e raw last))

-- a character has a byte
encode_some : (c : ℕ) → 0 < length (encode_utf8 c)
encode_some c = omega (arith, length-encode c, len_utf8_bounds c)

-- a raw text is empty where its value is
pub spelled_some : {raw value : List ℕ} → Spelled raw value → 0 < length raw → 0 < length value
spelled_some nothing lt = absurd (omega arith)
spelled_some (plain is x) lt = omega arith
spelled_some (escaped {more} {raw} {value} {c} e is x same) lt = omega (arith, encode_some c, length-append (encode_utf8 c) value)

pub spelled_none : {raw value : List ℕ} → Spelled raw value → 0 < length value → 0 < length raw
spelled_none nothing lt = absurd (omega arith)
spelled_none (plain is x) lt = omega arith
spelled_none (escaped {more} {raw} {value} {c} e is x same) lt = omega arith

-- ---- what is spelled is read

pass : (e t : List ℕ) → raw_from (e ++ t) (length e) ≡ raw_from t zero
pass [] t = refl
pass (b ∷ e) t = pass e t

behind_nothing : (o : Option (List ℕ × List ℕ)) → o ≡ behind_value [] o
behind_nothing None = refl
behind_nothing (Some x) = refl

behind_both : (v w : List ℕ) (o : Option (List ℕ × List ℕ)) → behind_value v (behind_value w o) ≡ behind_value (v ++ w) o
behind_both v w None = refl
behind_both v w (Some x) = ap (λ (t : List ℕ). Some (t, x.1)) (sym (append_assoc v w x.0))

-- a value is read before what follows
pub raw_along : {raw value : List ℕ} → Spelled raw value → (u : List ℕ) → raw_from (raw ++ u) zero ≡ behind_value value (raw_from u zero)
raw_along nothing u = behind_nothing (raw_from u zero)
raw_along (plain {b} {raw} {value} is x) u =
    let first : raw_from (b ∷ (raw ++ u)) zero ≡ behind_value (b ∷ []) (raw_from (raw ++ u) zero) = rw is refl in
    first ∙ ap (behind_value (b ∷ [])) (raw_along x u) ∙ behind_both (b ∷ []) value (raw_from u zero)
raw_along (escaped {more} {raw} {value} {c} e is x same) u =
    let parts : more ++ u ≡ e ++ (raw ++ u) = ap (λ (t : List ℕ). t ++ u) same ∙ append_assoc e raw u in
    let read : escape_at (more ++ u) ≡ Some (c, length e) = ap escape_at parts ∙ escape_again is (raw ++ u) in
    let first : raw_from (92 ∷ (more ++ u)) zero ≡ behind_value (encode_utf8 c) (raw_from (more ++ u) (length e)) =
    ap (option_and_then (λ (y : ℕ × ℕ). behind_value (encode_utf8 y.0) (raw_from (more ++ u) y.1))) read
    in
    let passed : raw_from (more ++ u) (length e) ≡ raw_from (raw ++ u) zero = ap (λ (t : List ℕ). raw_from t (length e)) parts ∙ pass e (raw ++ u) in
    first ∙ ap (behind_value (encode_utf8 c)) (passed ∙ raw_along x u) ∙ behind_both (encode_utf8 c) value (raw_from u zero)

raw_ends : {u : List ℕ} → EndsText u → raw_from u zero ≡ Some ([], u)
raw_ends comma = refl
raw_ends (closed at_end) = refl
raw_ends (closed at_close) = refl

raw_read : {raw value : List ℕ} (u : List ℕ) → Spelled raw value → EndsText u → raw_from (raw ++ u) zero ≡ Some (value, u)
raw_read {raw} {value} u x ends = raw_along x u ∙ ap (behind_value value) (raw_ends ends) ∙ ap (λ (t : List ℕ). Some (t, u)) (append-nil value)

same_position : (a b : ℕ) (t u : List ℕ) → a ≡ b → t ≡ u → position a t ≡ position b u
same_position a b t u e f = cc

unless_some : (p q : Position) (v : List ℕ) → 0 < length v → q.at + length q.rest ≡ p.at + length p.rest → length q.rest ≤ length p.rest → unless_empty p (v, q.rest) ≡ Some (v, q)
unless_some p q v some end within =
    let e : eqb (length v) 0 ≡ false = ne_eqb (length v) 0 (omega arith) in
    let at : position (p.at + (length p.rest - length q.rest)) q.rest ≡ q = same_position _ _ _ _ (omega arith) refl in
    rw e (ap (λ (x : Position). Some (v, x)) at)

-- a raw text between two positions is read, where it ends there
pub spelled_is_read : (p q : Position) (v : List ℕ) → SpelledTo p v q → 0 < length v → EndsText q.rest → raw_at p ≡ Some (v, q)
spelled_is_read p q v s some ends =
    let read : raw_from p.rest zero ≡ Some (v, q.rest) = ap (λ (t : List ℕ). raw_from t zero) s.parts ∙ raw_read q.rest s.spelled ends in
    let size = ap length s.parts in
    let both = length-append s.raw q.rest in
    let at = s.offset in
    ap (option_and_then (unless_empty p)) read ∙ unless_some p q v some (omega arith) (omega arith)

-- an empty one is not
pub empty_is_unread : (p q : Position) (v : List ℕ) → SpelledTo p v q → length v ≡ 0 → EndsText q.rest → raw_at p ≡ None
empty_is_unread p q v s empty ends =
    let read : raw_from p.rest zero ≡ Some (v, q.rest) = ap (λ (t : List ℕ). raw_from t zero) s.parts ∙ raw_read q.rest s.spelled ends in
    ap (option_and_then (unless_empty p)) read ∙ rw empty refl

-- nor is one with a backslash that begins no escape
pub unescaped_is_unread : (p q b : Position) (v : List ℕ) → SpelledTo p v q → Some b ≡ after (92 ∷ []) q → None ≡ escape_at b.rest → raw_at p ≡ None
unescaped_is_unread p q b v s stands none =
    let t = after_takes (92 ∷ []) q b (sym stands) in
    let here : raw_from q.rest zero ≡ None =
    ap (λ (x : List ℕ). raw_from x zero) t.parts ∙ ap (option_and_then (λ (y : ℕ × ℕ). behind_value (encode_utf8 y.0) (raw_from b.rest y.1))) (sym none)
    in
    let read : raw_from p.rest zero ≡ None = ap (λ (x : List ℕ). raw_from x zero) s.parts ∙ raw_along s.spelled q.rest ∙ ap (behind_value v) here in
    ap (option_and_then (unless_empty p)) read

pub text_again : (at : ℕ) (raw value u : List ℕ) → Spelled raw value → raw ≢ [] → EndsText u → raw_at (position at (raw ++ u)) ≡ Some (value, position (at + length raw) u)
text_again at raw value u x some ends =
    spelled_is_read (position at (raw ++ u)) (position (at + length raw) u) value (record { raw = raw; spelled = x; parts = refl; offset = refl }) (spelled_some x (not_empty raw some)) ends
  where
    not_empty : (t : List ℕ) → t ≢ [] → 0 < length t
    not_empty [] h = absurd (h refl)
    not_empty (b ∷ t) h = omega arith

-- ---- what is read is spelled

-- what is left of a text after some bytes: a raw text, and what ends it
pub record RawTaken (t value rest : List ℕ) : Type 0 where
  pub raw : List ℕ
  pub spelled : Spelled raw value
  pub parts : t ≡ raw ++ rest
  pub ends : EndsText rest

value_is : (v w r : List ℕ) (o : Option (List ℕ × List ℕ)) → behind_value v o ≡ Some (w, r) → (x : List ℕ) × (o ≡ Some (x, r)) × (v ++ x ≡ w)
value_is v w r o e =
    let m = map_is o (λ (x : List ℕ × List ℕ). (v ++ x.0, x.1)) (w, r) e in
    let first : v ++ m.0.0 ≡ w = ap (λ (y : List ℕ × List ℕ). y.0) m.2 in
    let second : m.0.1 ≡ r = ap (λ (y : List ℕ × List ℕ). y.1) m.2 in
    (m.0.0, m.1 ∙ ap (λ (y : List ℕ). Some (m.0.0, y)) second, first)

ends_there : (b : ℕ) (t : List ℕ) → is_plain b ≡ false → eqb b 92 ≡ false → EndsText (b ∷ t)
ends_there b t no_plain no_escape =
    ⊎_elim
    (λ is. subst (λ (x : ℕ). EndsText (x ∷ t)) (sym is.1) comma)
    (λ no44. ⊎_elim
    (λ is. subst (λ (x : ℕ). EndsText (x ∷ t)) (sym is.1) (closed at_close))
    (λ no41. absurd (let f : true ≡ false = rw (no44.0, no41.0, no_escape) at no_plain in cc))
    (eqb_tells b 41))
    (eqb_tells b 44)

raw_takes : (t : List ℕ) (k : ℕ) (value rest : List ℕ) → raw_from t k ≡ Some (value, rest) → RawTaken (drop k t) value rest
raw_takes [] k value rest e =
    let pair : ([], []) ≡ (value, rest) = some_same ([], []) (value, rest) e in
    let v : [] ≡ value = ap (λ (x : List ℕ × List ℕ). x.0) pair in
    let r : [] ≡ rest = ap (λ (x : List ℕ × List ℕ). x.1) pair in
    record { raw = []; spelled = subst (Spelled []) v nothing; parts = drop-nil k ∙ r; ends = subst EndsText r (closed at_end) }
raw_takes (b ∷ t) (suc k) value rest e = raw_takes t k value rest e
raw_takes (b ∷ t) zero value rest e = from (is_plain b) (eqb b 92) refl refl (raw_takes t) e
  where
    from : (v w : Bool) → is_plain b ≡ v → eqb b 92 ≡ w
        → ((k : ℕ) (value rest : List ℕ) → raw_from t k ≡ Some (value, rest) → RawTaken (drop k t) value rest)
        → cond {A = Option (List ℕ × List ℕ)} v (behind_value (b ∷ []) (raw_from t zero)) (cond {A = Option (List ℕ × List ℕ)} w (option_and_then (λ (y : ℕ × ℕ). behind_value (encode_utf8 y.0) (raw_from t y.1)) (escape_at t)) (Some ([], b ∷ t))) ≡ Some (value, rest)
        → RawTaken (b ∷ t) value rest
    from true w h i on e =
        let m = value_is (b ∷ []) value rest (raw_from t zero) e in
        let r = on zero m.0 rest m.1 in
        record { raw = b ∷ r.raw; spelled = subst (Spelled (b ∷ r.raw)) m.2 (plain h r.spelled); parts = ap (λ (x : List ℕ). b ∷ x) r.parts; ends = r.ends }
    from false true h i on e =
        let a = and_then_is (escape_at t) (λ (y : ℕ × ℕ). behind_value (encode_utf8 y.0) (raw_from t y.1)) (value, rest) e in
        let m = value_is (encode_utf8 a.0.0) value rest (raw_from t a.0.1) a.2 in
        let r = on a.0.1 m.0 rest m.1 in
        let k = escape_takes t a.0.0 a.0.1 a.1 in
        let past : drop a.0.1 t ≡ k.rest = ap (λ (x : List ℕ). drop a.0.1 x) k.parts ∙ drop_at k.own k.rest a.0.1 (sym k.size) in
        let is : b ≡ 92 = eqb-true b 92 i in
        let whole : t ≡ (k.own ++ r.raw) ++ rest = k.parts ∙ ap (λ (x : List ℕ). k.own ++ x) (sym past ∙ r.parts) ∙ sym (append_assoc k.own r.raw rest) in
        record {
          raw = 92 ∷ (k.own ++ r.raw);
          spelled = subst (Spelled (92 ∷ (k.own ++ r.raw))) m.2 (escaped k.own k.escape r.spelled refl);
          parts = ap (λ (x : ℕ). x ∷ t) is ∙ ap (λ (x : List ℕ). 92 ∷ x) whole;
          ends = r.ends;
        }
    from false false h i on e =
        let pair : ([], b ∷ t) ≡ (value, rest) = some_same ([], b ∷ t) (value, rest) e in
        let v : [] ≡ value = ap (λ (x : List ℕ × List ℕ). x.0) pair in
        let r : b ∷ t ≡ rest = ap (λ (x : List ℕ × List ℕ). x.1) pair in
        record { raw = []; spelled = subst (Spelled []) v nothing; parts = r; ends = subst EndsText r (ends_there b t h i) }

unless_is : (p : Position) (x : List ℕ × List ℕ) (v : List ℕ) (q : Position) → unless_empty p x ≡ Some (v, q) → (0 < length x.0) × (x.0 ≡ v) × (position (p.at + (length p.rest - length x.1)) x.1 ≡ q)
unless_is p x v q e = from (eqb (length x.0) 0) refl e
  where
    from : (t : Bool) → eqb (length x.0) 0 ≡ t → cond {A = Option (List ℕ × Position)} t None (Some (x.0, position (p.at + (length p.rest - length x.1)) x.1)) ≡ Some (v, q)
        → (0 < length x.0) × (x.0 ≡ v) × (position (p.at + (length p.rest - length x.1)) x.1 ≡ q)
    from true h e = absurd cc
    from false h e =
        let pair = some_same {A = List ℕ × Position} (x.0, position (p.at + (length p.rest - length x.1)) x.1) (v, q) e in
        (some x.0 h, ap (λ (y : List ℕ × Position). y.0) pair, ap (λ (y : List ℕ × Position). y.1) pair)
      where
        some : (t : List ℕ) → eqb (length t) 0 ≡ false → 0 < length t
        some [] h = absurd cc
        some (b ∷ t) h = omega arith

pub text_takes : (p : Position) (value : List ℕ) (q : Position) → raw_at p ≡ Some (value, q) → TextTaken p value q
text_takes p value q e =
    let a = and_then_is (raw_from p.rest zero) (unless_empty p) (value, q) e in
    let u = unless_is p a.0 value q a.2 in
    let r = raw_takes p.rest zero a.0.0 a.0.1 a.1 in
    let at : q.at ≡ p.at + (length p.rest - length a.0.1) = sym (ap (λ (y : Position). y.at) u.2) in
    let rest : a.0.1 ≡ q.rest = ap (λ (y : Position). y.rest) u.2 in
    let size = ap length r.parts in
    let both = length-append r.raw a.0.1 in
    record {
      spelled = record { raw = r.raw; spelled = subst (Spelled r.raw) u.1 r.spelled; parts = r.parts ∙ ap (λ (y : List ℕ). r.raw ++ y) rest; offset = omega arith };
      some = spelled_none r.spelled u.0;
      ends = subst EndsText rest r.ends;
    }

-- ---- the loop

pub text_start : (p end : Position) (front : List ℕ) → front ≡ take (plain_len p.rest) p.rest → end ≡ advanced (plain_len p.rest) p → SpelledTo p front end
text_start p end front is e =
    let n = plain_len p.rest in
    let rest : end.rest ≡ drop n p.rest = ap (λ (x : Position). x.rest) e in
    let at : end.at ≡ p.at + n = ap (λ (x : Position). x.at) e in
    let within = plain_within p.rest in
    let size : length (take n p.rest) ≡ n = omega (arith, length-take n p.rest) in
    record {
      raw = take n p.rest;
      spelled = subst (Spelled (take n p.rest)) (sym is) (plain_spelled p.rest);
      parts = sym (take-append-drop n p.rest) ∙ ap (λ (x : List ℕ). take n p.rest ++ x) (sym rest);
      offset = omega arith;
    }

pub stops_there : (p end : Position) → end ≡ advanced (plain_len p.rest) p → plain_len end.rest ≡ 0
stops_there p end e = ap plain_len (ap (λ (x : Position). x.rest) e) ∙ plain_rest p.rest

-- one turn: an escape, and what stands for itself after it
pub text_turns : (p end b q next : Position) (v run : List ℕ) (c n : ℕ) → SpelledTo p v end → Some b ≡ after (92 ∷ []) end → Some (c, n) ≡ escape_at b.rest
    → q ≡ advanced n b → run ≡ take (plain_len q.rest) q.rest → next ≡ advanced (plain_len q.rest) q → SpelledTo p ((v ++ encode_utf8 c) ++ run) next
text_turns p end b q next v run c n s stands read past is e =
    let t = after_takes (92 ∷ []) end b (sym stands) in
    let k = escape_takes b.rest c n (sym read) in
    let r = text_start q next run is e in
    let rest : q.rest ≡ k.rest = ap (λ (x : Position). x.rest) past ∙ ap (λ (x : List ℕ). drop n x) k.parts ∙ drop_at k.own k.rest n (sym k.size) in
    let at : q.at ≡ b.at + n = ap (λ (x : Position). x.at) past in
    let own : List ℕ = 92 ∷ (k.own ++ r.raw) in
    let spelled : Spelled own (encode_utf8 c ++ run) = escaped k.own k.escape r.spelled refl in
    let tail : end.rest ≡ own ++ next.rest =
    t.parts ∙ ap (λ (x : List ℕ). 92 ∷ x) (k.parts ∙ ap (λ (x : List ℕ). k.own ++ x) (sym rest ∙ r.parts) ∙ sym (append_assoc k.own r.raw next.rest))
    in
    record {
      raw = s.raw ++ own;
      spelled = subst (Spelled (s.raw ++ own)) (sym (append_assoc v (encode_utf8 c) run)) (spelled_append own (encode_utf8 c ++ run) s.spelled spelled);
      parts = s.parts ∙ ap (λ (x : List ℕ). s.raw ++ x) tail ∙ sym (append_assoc s.raw own next.rest);
      offset = omega (arith, s.offset, t.offset, r.offset, k.size, length-append s.raw own, length-append k.own r.raw);
    }
