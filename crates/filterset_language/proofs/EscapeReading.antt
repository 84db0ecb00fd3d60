-- Escapes: what is written is read, and what is read is written.
use Rattle.std.proofs.Common.{◌≡◌, ◌≢◌, ℕ, zero, suc, ◌+◌, ◌*◌, ◌<◌, ◌≤◌, Bool, true, false, cond, eqb, ltb, List, [], ◌∷◌, ◌++◌, length, get_or, IsUtf8, IsCharBoundary, Option, Some, None, refl, sym, ap, ◌∙◌, subst, arith, append_assoc, length-append, ⊎_elim}
use Rattle.std.specs.{Prelude.◌&&◌, Option.option_map, Option.option_and_then, Char.IsScalar}
use Rattle.std.proofs.lemmas.Bool.{lt-ltb, ne_eqb, eqb-true, Decides.eqb_tells, Decides.nat_tests}
use Rattle.std.proofs.{lemmas.Str.IsCharBoundary-after_ascii, Math.Seq.get_or-append_seam}
use lib.Utf8.{scalar}
pub use Rattle.std.proofs.lemmas.Option.{none-some as none_some, same_Some as some_same}
use Rattle.filterset_grammar.specs.Text.{hex_value, HexDigits, Letter, line_feed, carriage_return, tab, backspace, form_feed, backslash, slash, close, comma, Escape, letter, hexadecimal}
use Rattle.filterset_language.specs.Parsing.Escapes.{letter_at, digit_at, named, code_from, escape_at}

-- ---- options

pub and_then_is : {A B : Type 0} (o : Option A) (f : A → Option B) (y : B) → option_and_then f o ≡ Some y → (x : A) × (o ≡ Some x) × (f x ≡ Some y)
and_then_is (Some x) f y e = (x, refl, e)
and_then_is None f y e = absurd cc

pub map_is : {A B : Type 0} (o : Option A) (f : A → B) (y : B) → option_map f o ≡ Some y → (x : A) × (o ≡ Some x) × (f x ≡ y)
map_is (Some x) f y e = (x, refl, let d : f x ≡ y = cc in d)
map_is None f y e = absurd cc

-- ---- digits

digit_again : (d : ℕ) → hex_value d < 16 → digit_at d ≡ Some (hex_value d)
digit_again d h = rw (lt-ltb (hex_value d) 16 h) refl

digit_from : (v d : ℕ) → cond (ltb v 16) (Some v) None ≡ Some d → (v < 16) × (d ≡ v)
digit_from v d e = grind (arith, nat_tests)

digit_is : (b d : ℕ) → digit_at b ≡ Some d → (hex_value b < 16) × (d ≡ hex_value b)
digit_is b d e = digit_from (hex_value b) d e

pub digit_low : (b d : ℕ) → Some d ≡ digit_at b → d < 16
digit_low b d e =
    let is = digit_is b d (sym e) in
    let v : d ≡ hex_value b = is.1 in
    subst (λ (x : ℕ). x < 16) (sym v) is.0

no_brace : (d : ℕ) → hex_value d < 16 → eqb d 125 ≡ false
no_brace d h = ne_eqb d 125 (λ e. let no : hex_value 125 < 16 = subst (λ (x : ℕ). hex_value x < 16) e h in absurd (omega arith))

named_again : (seen code : ℕ) → 1 ≤ seen → IsScalar code → named seen code ≡ Some (code, seen + 3)
named_again seen code some is =
    let e : eqb seen 0 ≡ false = ne_eqb seen 0 (omega arith) in
    rw (e, is) refl

-- digits and a closing brace
code_again : (digits : List ℕ) (seen code number : ℕ) (u : List ℕ) → HexDigits digits code number → 1 ≤ seen + length digits → seen + length digits ≤ 6 → IsScalar number
    → code_from seen code (digits ++ (125 ∷ u)) ≡ Some (number, seen + length digits + 3)
code_again [] seen code number u h some few is =
    let n : named seen code ≡ Some (code, seen + 3) = named_again seen code (omega arith) (subst IsScalar h is) in
    n ∙ ap (λ (x : ℕ). Some (x, seen + 3)) (sym h) ∙ ap (λ (x : ℕ). Some (number, x)) (omega arith)
code_again (d ∷ ds) seen code number u h some few is =
    let brace = no_brace d h.0 in
    let six : eqb seen 6 ≡ false = ne_eqb seen 6 (omega arith) in
    let rest = code_again ds (seen + 1) (16 * code + hex_value d) number u h.1 (omega arith) (omega arith) is in
    step d seen code brace six (digit_again d h.0) ∙ rest ∙ ap (λ (x : ℕ). Some (number, x)) (omega arith)
  where
    step : (d seen code : ℕ) → eqb d 125 ≡ false → eqb seen 6 ≡ false → digit_at d ≡ Some (hex_value d) → code_from seen code (d ∷ (ds ++ (125 ∷ u))) ≡ code_from (seen + 1) (16 * code + hex_value d) (ds ++ (125 ∷ u))
    step d seen code e1 e2 e3 = rw (e1, e2) (ap (option_and_then (λ (x : ℕ). code_from (seen + 1) (16 * code + x) (ds ++ (125 ∷ u)))) e3)

-- the digits between a position after so many others and a closing brace
pub record CodeTaken (t : List ℕ) (seen code c n : ℕ) : Type 0 where
  pub digits : List ℕ
  pub rest : List ℕ
  pub parts : t ≡ digits ++ (125 ∷ rest)
  pub number : HexDigits digits code c
  pub count : n ≡ seen + length digits + 3
  pub some : 1 ≤ seen + length digits
  pub few : seen + length digits ≤ 6
  pub is : IsScalar c

named_is : (seen code c n : ℕ) → named seen code ≡ Some (c, n) → (1 ≤ seen) × (c ≡ code) × IsScalar c × (n ≡ seen + 3)
named_is seen code c n e = from (eqb seen 0) (scalar code) refl refl e
  where
    from : (v w : Bool) → eqb seen 0 ≡ v → scalar code ≡ w → cond {A = Option (ℕ × ℕ)} v None (cond {A = Option (ℕ × ℕ)} w (Some (code, seen + 3)) None) ≡ Some (c, n) → (1 ≤ seen) × (c ≡ code) × IsScalar c × (n ≡ seen + 3)
    from true w h i e = absurd cc
    from false true h i e =
        let pair : (code, seen + 3) ≡ (c, n) = some_same (code, seen + 3) (c, n) e in
        let f : c ≡ code = sym (ap (λ (x : ℕ × ℕ). x.0) pair) in
        let g : n ≡ seen + 3 = sym (ap (λ (x : ℕ × ℕ). x.1) pair) in
        (some seen h, f, subst IsScalar (sym f) i, g)
      where
        some : (seen : ℕ) → eqb seen 0 ≡ false → 1 ≤ seen
        some zero h = absurd cc
        some (suc k) h = omega arith
    from false false h i e = absurd cc

code_takes : (t : List ℕ) (seen code c n : ℕ) → seen ≤ 6 → code_from seen code t ≡ Some (c, n) → CodeTaken t seen code c n
code_takes [] seen code c n le e = absurd cc
code_takes (b ∷ t) seen code c n le e =
    ⊎_elim
    (λ yes.
    let f : named seen code ≡ Some (c, n) = rw yes.0 at e in
    let g = named_is seen code c n f in
    record { digits = []; rest = t; parts = ap (λ (x : ℕ). x ∷ t) yes.1; number = g.1; count = let k = g.3 in omega arith; some = let k = g.0 in omega arith; few = omega arith; is = g.2 })
    (λ no. ⊎_elim
    (λ yes. absurd (let f : None ≡ Some (c, n) = rw (no.0, yes.0) at e in cc))
    (λ six.
    let f : option_and_then (λ (d : ℕ). code_from (seen + 1) (16 * code + d) t) (digit_at b) ≡ Some (c, n) = rw (no.0, six.0) at e in
    let g = and_then_is (digit_at b) (λ (d : ℕ). code_from (seen + 1) (16 * code + d) t) (c, n) f in
    let d = digit_is b g.0 g.1 in
    let below : seen + 1 ≤ 6 = let ne = six.1 in omega arith in
    let i = code_takes t (seen + 1) (16 * code + g.0) c n below g.2 in
    record {
      digits = b ∷ i.digits;
      rest = i.rest;
      parts = ap (λ (x : List ℕ). b ∷ x) i.parts;
      number = (d.0, subst (λ (x : ℕ). HexDigits i.digits (16 * code + x) c) d.1 i.number);
      count = omega (arith, i.count);
      some = omega arith;
      few = omega (arith, i.few);
      is = i.is;
    })
    (eqb_tells seen 6))
    (eqb_tells b 125)

-- ---- letters

-- what a letter stands for; it is not the `u` of a number, and it is ASCII
letter_again : {l c : ℕ} → Letter l c → (letter_at l ≡ Some c) × (eqb l 117 ≡ false) × (l < 128)
letter_again line_feed = (refl, refl, omega arith)
letter_again carriage_return = (refl, refl, omega arith)
letter_again tab = (refl, refl, omega arith)
letter_again backspace = (refl, refl, omega arith)
letter_again form_feed = (refl, refl, omega arith)
letter_again backslash = (refl, refl, omega arith)
letter_again slash = (refl, refl, omega arith)
letter_again close = (refl, refl, omega arith)
letter_again comma = (refl, refl, omega arith)

letter_is : (l c : ℕ) → letter_at l ≡ Some c → Letter l c
letter_is l c e =
    one 110 10 _ line_feed
    (one 114 13 _ carriage_return
    (one 116 9 _ tab
    (one 98 8 _ backspace
    (one 102 12 _ form_feed
    (one 92 92 _ backslash
    (one 47 47 _ slash
    (one 41 41 _ close
    (one 44 44 _ comma
    (λ none. absurd cc))))))))) e
  where
    one : (k v : ℕ) (o : Option ℕ) → Letter k v → (o ≡ Some c → Letter l c) → cond (eqb l k) (Some v) o ≡ Some c → Letter l c
    one k v o is other e = from (eqb l k) refl e
      where
        from : (t : Bool) → eqb l k ≡ t → cond t (Some v) o ≡ Some c → Letter l c
        from true h e = let f : v ≡ c = cc in subst (λ (x : ℕ). Letter x c) (sym (eqb-true l k h)) (subst (λ (x : ℕ). Letter k x) f is)
        from false h e = other e

-- ---- escapes

pub escape_again : {own : List ℕ} {c : ℕ} → Escape own c → (u : List ℕ) → escape_at (own ++ u) ≡ Some (c, length own)
escape_again (letter {l} {c} is) u = first u
  where
    first : (u : List ℕ) → escape_at (l ∷ u) ≡ Some (c, 1)
    first [] = ap (option_map (λ (x : ℕ). (x, 1))) (letter_again is).0
    first (d ∷ t) = rw (letter_again is).1 (ap (option_map (λ (x : ℕ). (x, 1))) (letter_again is).0)
escape_again (hexadecimal {t} {c} digits some few number is text) u =
    let whole : t ++ u ≡ 117 ∷ 123 ∷ (digits ++ (125 ∷ u)) = ap (λ (x : List ℕ). x ++ u) text ∙ ap (λ (x : List ℕ). 117 ∷ 123 ∷ x) (append_assoc digits (125 ∷ []) u) in
    let size : length t ≡ length digits + 3 = ap length text ∙ (let e = length-append digits (125 ∷ []) in omega (arith, e)) in
    let read = code_again digits 0 0 c u number (omega arith) (omega arith) is in
    ap escape_at whole ∙ read ∙ ap (λ (x : ℕ). Some (c, x)) (omega arith)

-- an escape, and what stands after it
pub record EscapeTaken (t : List ℕ) (c n : ℕ) : Type 0 where
  pub own : List ℕ
  pub rest : List ℕ
  pub parts : t ≡ own ++ rest
  pub escape : Escape own c
  pub size : n ≡ length own

letter_taken : (b : ℕ) (t : List ℕ) (c n : ℕ) → option_map {U = ℕ × ℕ} (λ (x : ℕ). (x, 1)) (letter_at b) ≡ Some (c, n) → EscapeTaken (b ∷ t) c n
letter_taken b t c n e =
    let m = map_is (letter_at b) (λ (x : ℕ). (x, 1)) (c, n) e in
    let f : m.0 ≡ c = ap (λ (x : ℕ × ℕ). x.0) m.2 in
    let g : n ≡ 1 = sym (ap (λ (x : ℕ × ℕ). x.1) m.2) in
    record { own = b ∷ []; rest = t; parts = refl; escape = letter (letter_is b c (m.1 ∙ ap Some f)); size = g }

pub escape_takes : (t : List ℕ) (c n : ℕ) → escape_at t ≡ Some (c, n) → EscapeTaken t c n
escape_takes [] c n e = absurd cc
escape_takes (b ∷ []) c n e = letter_taken b [] c n e
escape_takes (b ∷ d ∷ t) c n e = from (eqb b 117) (eqb d 123) refl refl e
  where
    from : (v w : Bool) → eqb b 117 ≡ v → eqb d 123 ≡ w → cond {A = Option (ℕ × ℕ)} (v && w) (code_from 0 0 t) (option_map {U = ℕ × ℕ} (λ (x : ℕ). (x, 1)) (letter_at b)) ≡ Some (c, n) → EscapeTaken (b ∷ d ∷ t) c n
    from true true h i e =
        let k = code_takes t 0 0 c n (omega arith) e in
        let eb : b ≡ 117 = eqb-true b 117 h in
        let ed : d ≡ 123 = eqb-true d 123 i in
        let own : List ℕ = 117 ∷ 123 ∷ (k.digits ++ (125 ∷ [])) in
        let parts : b ∷ d ∷ t ≡ own ++ k.rest = ap (λ (x : ℕ). x ∷ d ∷ t) eb ∙ ap (λ (x : ℕ). 117 ∷ x ∷ t) ed ∙ ap (λ (x : List ℕ). 117 ∷ 123 ∷ x) (k.parts ∙ sym (append_assoc k.digits (125 ∷ []) k.rest)) in
        let size : n ≡ length own = let z = length-append k.digits (125 ∷ []) in omega (arith, k.count, z) in
        record { own = own; rest = k.rest; parts = parts; escape = hexadecimal k.digits (omega (arith, k.some)) (omega (arith, k.few)) k.number k.is refl; size = size }
    from true false h i e = letter_taken b (d ∷ t) c n e
    from false w h i e = letter_taken b (d ∷ t) c n e

-- where none is read, none is written
pub no_escape : (t : List ℕ) → escape_at t ≡ None → (own rest : List ℕ) (c : ℕ) → Escape own c → t ≢ own ++ rest
no_escape t none own rest c is e =
    none_some (c, length own) (sym none ∙ ap escape_at e ∙ escape_again is rest)

-- the last byte of an escape
pub record EndsLow (own : List ℕ) : Type 0 where
  pub front : List ℕ
  pub last : ℕ
  pub low : last < 128
  pub parts : own ≡ front ++ (last ∷ [])

escape_ends : {own : List ℕ} {c : ℕ} → Escape own c → EndsLow own
escape_ends (letter {l} {c} is) = record { front = []; last = l; low = (letter_again is).2; parts = refl }
escape_ends (hexadecimal {t} {c} digits some few number is text) = record { front = 117 ∷ 123 ∷ digits; last = 125; low = omega arith; parts = text }

pub escape_within : (t : List ℕ) (c n : ℕ) → escape_at t ≡ Some (c, n) → n ≤ length t
escape_within t c n e =
    let k = escape_takes t c n e in
    let size = ap length k.parts in
    omega (arith, size, k.size, length-append k.own k.rest)

-- a text may be cut after an escape
pub escape_boundary : (t : List ℕ) (c n : ℕ) → IsUtf8 t → escape_at t ≡ Some (c, n) → IsCharBoundary t n
escape_boundary t c n utf8 e =
    let k = escape_takes t c n e in
    let l = escape_ends k.escape in
    let parts : t ≡ l.front ++ (l.last ∷ k.rest) = k.parts ∙ ap (λ (x : List ℕ). x ++ k.rest) l.parts ∙ append_assoc l.front (l.last ∷ []) k.rest in
    let size : n ≡ length l.front + 1 = k.size ∙ ap length l.parts ∙ length-append l.front (l.last ∷ []) in
    let short : length l.front < length t = let z = ap length parts in omega (arith, z, length-append l.front (l.last ∷ k.rest)) in
    let byte : get_or t (length l.front) 0 ≡ l.last = ap (λ (x : List ℕ). get_or x (length l.front) 0) parts ∙ get_or-append_seam l.front l.last k.rest 0 in
    let low : get_or t (length l.front) 0 < 128 = let z = l.low in omega (arith, z) in
    rw size (IsCharBoundary-after_ascii t (length l.front) utf8 short low)
