-- White space, and what stands before a `)`.
use Rattle.std.proofs.Common.{◌≡◌, ◌≢◌, ℕ, suc, true, false, Bool, cond, eqb, List, [], ◌∷◌, ◌++◌, length, refl, sym, ap, ◌∙◌, subst, arith, length-append}
use Rattle.std.specs.Prelude.{All, IsTrue, ◌&&◌, chars, encode_utf8, encode_utf8_all}
use Rattle.std.specs.Char.{IsScalar, is_whitespace, is_not_whitespace}
use Rattle.std.specs.Str.{is_utf8, all_scalars, skip_leading_whitespace, trim_start, NonePass}
use Rattle.std.proofs.lemmas.Bool.{and_parts as both_true, ne_eqb, eqb-true, Decides.nat_tests}
use Rattle.std.proofs.lemmas.List.{append-nil}
use Rattle.std.proofs.lemmas.List.Elements.{All-cons, All-nil, All-head, All-tail, All-from_get_or}
use Rattle.std.proofs.lemmas.Str.{chars-encodes, IsUtf8-from_is_utf8, is_utf8-from_IsUtf8, length-encode, len_utf8_bounds, NoCharPasses-byte}
use Rattle.filterset_grammar.specs.Text.{WhiteSpace}
use Rattle.filterset_language.specs.Parsing.Front.{is_white, close_len}

abbrev pub IsWhite : ℕ → Type 0
IsWhite c = IsScalar c × IsTrue (is_whitespace c)

scalar_white : (c : ℕ) → is_whitespace c ≡ true → IsScalar c
scalar_white c h = grind (arith, nat_tests)

-- what is skipped to the end is white
skipped_white : (cs : List ℕ) → length (encode_utf8_all (skip_leading_whitespace cs)) ≡ 0 → All IsWhite cs
skipped_white [] h = All-nil IsWhite
skipped_white (c ∷ cs) h = by_test (is_whitespace c) refl h (skipped_white cs)
  where
    by_test : (v : Bool) → is_whitespace c ≡ v → length (encode_utf8_all (cond v (skip_leading_whitespace cs) (c ∷ cs))) ≡ 0
        → (length (encode_utf8_all (skip_leading_whitespace cs)) ≡ 0 → All IsWhite cs) → All IsWhite (c ∷ cs)
    by_test true e h more = All-cons IsWhite c cs (scalar_white c e, e) (more h)
    by_test false e h more = absurd (omega (arith, length-append (encode_utf8 c) (encode_utf8_all cs), length-encode c, (len_utf8_bounds c).0))

pub white_skipped : (cs t : List ℕ) → All IsWhite cs → skip_leading_whitespace (cs ++ t) ≡ skip_leading_whitespace t
white_skipped [] t h = refl
white_skipped (c ∷ cs) t h =
    let first : is_whitespace c ≡ true = (All-head IsWhite c cs h).1 in
    rw first (white_skipped cs t (All-tail IsWhite c cs h))

pub white_scalars : (cs : List ℕ) → All IsWhite cs → all_scalars cs ≡ true
white_scalars [] h = refl
white_scalars (c ∷ cs) h =
    let first : IsScalar c = (All-head IsWhite c cs h).0 in
    rw first (white_scalars cs (All-tail IsWhite c cs h))

pub white_from : (t : List ℕ) → is_white t ≡ true → WhiteSpace t
unfolding is_white trim_start
white_from t h =
    let b = both_true (is_utf8 t) _ h in
    let u = IsUtf8-from_is_utf8 t b.0 in
    let same : chars t ≡ u.0 = ap chars (sym u.1.1) ∙ chars-encodes u.0 u.1.0 in
    let none : length (encode_utf8_all (skip_leading_whitespace (chars t))) ≡ 0 = eqb-true _ _ b.1 in
    (u.0, sym u.1.1, skipped_white u.0 (subst (λ (cs : List ℕ). length (encode_utf8_all (skip_leading_whitespace cs)) ≡ 0) same none))

pub white_to : (t : List ℕ) → WhiteSpace t → is_white t ≡ true
unfolding is_white trim_start
white_to t w =
    let s : all_scalars w.0 ≡ true = white_scalars w.0 w.2 in
    let utf8 : is_utf8 t ≡ true = is_utf8-from_IsUtf8 t (w.0, (s, sym w.1)) in
    let same : chars t ≡ w.0 = ap chars w.1 ∙ chars-encodes w.0 s in
    let none : skip_leading_whitespace (chars t) ≡ [] = ap skip_leading_whitespace (same ∙ sym (append-nil w.0)) ∙ white_skipped w.0 [] w.2 in
    rw (utf8, none) refl

-- white space holds no `)`
none_pass : (cs : List ℕ) → All IsWhite cs → NonePass is_not_whitespace cs
none_pass [] h = tt
none_pass (c ∷ cs) h =
    let first : is_whitespace c ≡ true = (All-head IsWhite c cs h).1 in
    (rw first refl, none_pass cs (All-tail IsWhite c cs h))

white_no_close : (t : List ℕ) → WhiteSpace t → All (λ b. b ≢ 41) t
white_no_close t w = All-from_get_or (λ b. b ≢ 41) t 0 (λ i lt is.
    let none = NoCharPasses-byte is_not_whitespace t i (w.0, sym w.1, none_pass w.0 w.2) lt (omega arith) in
    let f : is_not_whitespace 41 ≡ false = subst (λ (b : ℕ). is_not_whitespace b ≡ false) is none in
    absurd cc)

close_after : (t r : List ℕ) → All (λ b. b ≢ 41) t → close_len (t ++ 41 ∷ r) ≡ length t
close_after [] r h = refl
close_after (b ∷ t) r h =
    let here : eqb b 41 ≡ false = ne_eqb b 41 (All-head (λ b. b ≢ 41) b t h) in
    let more = close_after t r (All-tail (λ b. b ≢ 41) b t h) in
    rw here (ap suc more)

-- white space stands up to the next `)`
pub white_close : (t r : List ℕ) → WhiteSpace t → close_len (t ++ 41 ∷ r) ≡ length t
white_close t r w = close_after t r (white_no_close t w)
