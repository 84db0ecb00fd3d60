-- Where arguments end that are spelled as the grammar says.
use Rattle.std.proofs.Common.{◌≡◌, ◌≢◌, ℕ, suc, ◌+◌, ◌<◌, ◌∙◌, ap, Bool, true, false, cond, eqb, List, [], ◌∷◌, ◌++◌, append_assoc, arith, drop, get_or, length, length-append, refl, subst, sym}
use Rattle.std.specs.Prelude.{◌||◌}
use Rattle.std.proofs.lemmas.{Bool.Decides.nat_tests, List.drop_at}
use Rattle.filterset_faults.specs.{Span.length_of, declared.span.SourceSpan.SourceSpan}
use Rattle.filterset_grammar.specs.Grammar.{begins_plainly}
use Rattle.filterset_grammar.specs.Text.{Blanks, Escape, HexDigits, Spelled, escaped, hex_value, hexadecimal, is_plain, letter, newline, no_blank, nothing, plain, return_newline, space}
use Rattle.filterset_language.proofs.{BodyReading.regex_again, EscapeReading.map_is}
use Rattle.filterset_language.specs.Parsing.{Front.blank_len, Position.Position, RawTexts.body_len}
use Rattle.filterset_rewriting.specs.Nesting.Arguments.{IsBody, raw_len}

-- ---- raw texts

-- what stands for itself ends no raw text
over_plain : (b : ℕ) (t : List ℕ) → is_plain b ≡ true → raw_len false (b ∷ t) ≡ suc (raw_len false t)
over_plain b t is = by_tests (eqb b 44) (eqb b 41) (eqb b 92) is
  where
    by_tests : (p q r : Bool) → cond (p || (q || r)) false true ≡ true
        → cond (p || q) 0 (suc (raw_len r t)) ≡ suc (raw_len false t)
    by_tests p q r is = grind (arith, nat_tests)

hex_plain : (d : ℕ) → hex_value d < 16 → is_plain d ≡ true
hex_plain d lt = grind (arith, nat_tests)

over_digits : (digits t : List ℕ) (before number : ℕ) → HexDigits digits before number → raw_len false (digits ++ t) ≡ length digits + raw_len false t
over_digits [] t before number is = omega arith
over_digits (d ∷ ds) t before number is =
    over_plain d (ds ++ t) (hex_plain d is.0) ∙ (let more = over_digits ds t _ number is.1 in omega (arith, more))

over_escape : {e : List ℕ} {c : ℕ} → Escape e c → (t : List ℕ) → raw_len true (e ++ t) ≡ length e + raw_len false t
over_escape (letter {l} {c} is) t = omega arith
over_escape (hexadecimal {t = e} {c} digits some few are scalar is) t =
    let inner : List ℕ = digits ++ 125 ∷ t in
    let whole : e ++ t ≡ 117 ∷ 123 ∷ inner = ap (λ (x : List ℕ). x ++ t) is ∙ simp append_assoc in
    let size = ap length is in
    let last : raw_len false (125 ∷ t) ≡ suc (raw_len false t) = over_plain 125 t refl in
    let more : raw_len false inner ≡ length digits + raw_len false (125 ∷ t) = over_digits digits (125 ∷ t) 0 c are in
    let first : raw_len true (117 ∷ 123 ∷ inner) ≡ suc (suc (raw_len false inner)) = refl in
    ap (raw_len true) whole ∙ (omega (arith, first, more, last, size, length-append digits (125 ∷ [])))

-- a raw text goes on up to its end
pub over_raw : {raw value : List ℕ} → Spelled raw value → (t : List ℕ) → raw_len false (raw ++ 41 ∷ t) ≡ length raw
over_raw nothing t = refl
over_raw (plain {b} {raw} {value} is more) t = over_plain b (raw ++ 41 ∷ t) is ∙ ap suc (over_raw more t)
over_raw (escaped {more = own} {raw} {value} {c} e is more whole) t =
    let rest : List ℕ = raw ++ 41 ∷ t in
    let parts : own ++ 41 ∷ t ≡ e ++ rest = ap (λ (x : List ℕ). x ++ 41 ∷ t) whole ∙ append_assoc e raw (41 ∷ t) in
    let first : raw_len false (92 ∷ (own ++ 41 ∷ t)) ≡ suc (raw_len true (own ++ 41 ∷ t)) = refl in
    let second : raw_len true (own ++ 41 ∷ t) ≡ length e + raw_len false rest = ap (raw_len true) parts ∙ over_escape is rest in
    omega (arith, first, second, over_raw more t, ap length whole, length-append e raw)

-- ---- raw texts that begin plainly

no_blanks : (b : ℕ) (t : List ℕ) → b ∷ t ≡ [] → ⊥
no_blanks b t is = cc

after_blank : (b : ℕ) (raw u : List ℕ) → b ≢ 32 → b ≢ 10 → (b ≡ 13 → (u : List ℕ) → raw ≢ 10 ∷ u) → blank_len (b ∷ (raw ++ 41 ∷ u)) ≡ 0
after_blank b [] u no_space no_line h = grind (arith, nat_tests)
after_blank b (c ∷ raw) u no_space no_line h =
    let no_end : b ≡ 13 → c ≢ 10 = λ e is. h e raw (ap (λ (x : ℕ). x ∷ raw) is) in grind (arith, nat_tests)

-- what begins plainly begins with no blank
pub plain_stop : (raw u : List ℕ) → raw ≢ [] → begins_plainly raw → blank_len (raw ++ 41 ∷ u) ≡ 0
plain_stop [] u some h = absurd (some refl)
plain_stop (b ∷ raw) u some h =
    after_blank b raw u
    (λ e. no_blanks b [] (h.0 (b ∷ []) raw (subst (λ (x : ℕ). Blanks (x ∷ [])) (sym e) (space no_blank)) refl))
    (λ e. no_blanks b [] (h.0 (b ∷ []) raw (subst (λ (x : ℕ). Blanks (x ∷ [])) (sym e) (newline no_blank)) refl))
    (λ e more is. no_blanks b (10 ∷ []) (h.0 (b ∷ 10 ∷ []) more (subst (λ (x : ℕ). Blanks (x ∷ 10 ∷ [])) (sym e) (return_newline no_blank)) (ap (λ (x : List ℕ). b ∷ x) is)))

-- and with no slash
pub plain_no_slash : (raw t u : List ℕ) → raw ≢ [] → begins_plainly raw → raw ++ 41 ∷ t ≢ 47 ∷ u
plain_no_slash [] t u some h is = absurd (some refl)
plain_no_slash (b ∷ raw) t u some h is = (h.1 b raw refl).0 (ap (λ (x : List ℕ). get_or x 0 0) is)

-- ---- cuts

pub cut : (text inside rest : List ℕ) (n : ℕ) → text ≡ inside ++ rest → n ≡ length inside → drop n text ≡ rest
cut text inside rest n is size = ap (drop n) is ∙ drop_at inside rest n (sym size)

-- ---- bodies of regular expressions

-- a body goes on up to its slash
pub over_body : (body u : List ℕ) → IsBody body → body_len 0 (body ++ 47 ∷ u) ≡ length body
over_body body u is =
    let (q, found, same) = map_is _ _ _ (regex_again 0 body is.0 u is.1) in
    ap (λ (x : (List ℕ × SourceSpan) × Position). length_of x.0.1) same
