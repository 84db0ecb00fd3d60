-- Signs, words and values at the front of a text.
use Rattle.std.proofs.Common.{◌≡◌, ◌≢◌, ℕ, zero, suc, ◌<◌, true, false, [], ◌∷◌, ◌++◌, length, get_or, take, drop, IsUtf8, IsCharBoundary, Option, Some, None, refl, sym, ap, subst, ◌∙◌, arith, add-one, append_assoc}
use Rattle.std.specs.{Prelude.Bool, Prelude.◌||◌, Prelude.IsTrue, Prelude.MatchOption, Prelude.IfSome, Borrow.Bor}
use Rattle.std.specs.{Char.is_ascii_digit, List.slice_get, Option.option_map_or, Str.IsTrimStart, Str.trim_start}
use Rattle.std.proofs.lemmas.Bool.{or_right, false≢true, Decides.nat_tests}
use Rattle.std.proofs.Math.Seq.{get_or-append_seam}
use Rattle.std.proofs.lemmas.List.{get_or_default, length-append, take-append-drop}
use Rattle.std.proofs.lemmas.List.Sums.{prefix_len_passes, prefix_len-le-length}
use Rattle.std.proofs.lemmas.Str.{IsCharBoundary-after_ascii, IsCharBoundary-start}
use Rattle.filterset_json.specs.Shape.{Text}
use Rattle.filterset_configuration.specs.PlatformReading.{IsRest}
use Rattle.filterset_configuration.specs.PlatformGrammar.{Quoted, Sign, Word, is_letter, is_word_byte, word_len}

pub heads : {a b : ℕ} {s t : Text} → a ∷ s ≡ b ∷ t → a ≡ b
heads e = cc

pub tails : {a b : ℕ} {s t : Text} → a ∷ s ≡ b ∷ t → s ≡ t
tails e = cc

abbrev pub begins_word : Text → Bool
begins_word s = option_map_or is_letter (slice_get s 0) false

word_is_ascii : (b : ℕ) → is_word_byte b ≡ true → b < 128
word_is_ascii b e = grind (arith, nat_tests)

-- a text may be cut after a word
pub word_boundary : (t : Text) → IsUtf8 t → IsCharBoundary t (word_len t)
word_boundary t utf8 = at (word_len t) refl
  where
    at : (n : ℕ) → n ≡ word_len t → IsCharBoundary t n
    at zero e = IsCharBoundary-start t utf8
    at (suc n) e =
        let within = prefix_len-le-length is_word_byte t in
        rw (← add-one) (IsCharBoundary-after_ascii t n utf8 (omega arith) (word_is_ascii (get_or t n 0) (prefix_len_passes is_word_byte t n 0 (omega arith))))

-- a word has a letter at least
pub word_len-some : (s : Text) → begins_word s ≡ true → 0 < word_len s
word_len-some [] e = absurd (false≢true e)
word_len-some (b ∷ s) e = rw (or_right (is_ascii_digit b) (is_letter b) e) (omega arith)

-- no word begins where a sign is
pub no_word : (s : Text) {w t r : Text} → Sign 41 s r → Word w s t → ⊥
no_word s {w} {t} {r} at word = let P : Text → Type 0 = λ x. IsTrue (begins_word x) in false≢true (subst P at word.begins)

-- what a reader of signs returns, after white space
pub after_sign : (c : ℕ) (text trimmed : Text) (o : Option (Bor Text)) → trimmed ≡ trim_start text
    → MatchOption o ((rest : Text) → trimmed ≢ c ∷ rest) (λ x. trimmed ≡ c ∷ x.now)
    → MatchOption o ((t : Text) → Sign c text t → ⊥) (λ x. Sign c text x.now)
after_sign c text trimmed None e h = λ t at. h t (e ∙ at)
after_sign c text trimmed (Some x) e h = sym e ∙ h

-- a text ends in what is left of it, and in what is left of that
pub rest_of_drop : (n : ℕ) (text : Text) → IsRest text (drop n text)
rest_of_drop n text = (take n text, sym (take-append-drop n text))

pub rest_along : (a b c : Text) → IsRest a b → IsRest b c → IsRest a c
rest_along a b c p q = (p.0 ++ q.0, p.1 ∙ ap (λ x. p.0 ++ x) q.1 ∙ sym (append_assoc p.0 q.0 c))

-- so does it in what follows white space and a sign
pub sign_rest : (c : ℕ) (text trimmed : Text) (o : Option (Bor Text)) → IsRest text trimmed
    → MatchOption o ((rest : Text) → trimmed ≢ c ∷ rest) (λ x. trimmed ≡ c ∷ x.now)
    → IfSome o (λ x. IsRest text x.now)
sign_rest c text trimmed None le h = tt
sign_rest c text trimmed (Some x) rest h = rest_along text trimmed x.now rest (c ∷ [], h)

-- what is left after white space
pub trim_rest : (text trimmed : Text) → IsTrimStart text trimmed → IsRest text trimmed
trim_rest text trimmed h = let P : Text → Type 0 = λ x. IsRest text x in subst P (sym h.1) (rest_of_drop h.0 text)

-- at any count that is that of the word
pub boundary_at : (t : Text) (n : ℕ) → IsUtf8 t → n ≡ word_len t → IsCharBoundary t n
boundary_at t n utf8 e = rw e (word_boundary t utf8)

pub words_rest : (text trimmed : Text) (o : Option (Bor Text × Bor Text)) → IsRest text trimmed
    → IfSome o (λ x. IsRest trimmed x.1.now) → IfSome o (λ x. IsRest text x.1.now)
words_rest text trimmed None rest h = tt
words_rest text trimmed (Some x) rest h = rest_along text trimmed x.1.now rest h

cut_once : (v w t u : Text) → ((i : ℕ) → i < length v → get_or v i 0 ≢ 34) → ((i : ℕ) → i < length w → get_or w i 0 ≢ 34)
    → v ++ (34 ∷ t) ≡ w ++ (34 ∷ u) → (v ≡ w) × (t ≡ u)
cut_once [] [] t u p q e = (refl, tails e)
cut_once [] (c ∷ w) t u p q e = absurd (q 0 (omega arith) (sym (heads e)))
cut_once (b ∷ v) [] t u p q e = absurd (p 0 (omega arith) (heads e))
cut_once (b ∷ v) (c ∷ w) t u p q e =
    let more = cut_once v w t u (λ i lt. later b v i lt p) (λ i lt. later c w i lt q) (tails e) in
    ((λ i. heads e i ∷ more.0 i), more.1)
  where
    later : (b : ℕ) (v : Text) (i : ℕ) → i < length v → ((k : ℕ) → k < length (b ∷ v) → get_or (b ∷ v) k 0 ≢ 34) → get_or v i 0 ≢ 34
    later b v i lt p = p (suc i) (omega arith)

-- a value is read in one way
pub same_quoted : {v w : Text} (s : Text) {t u : Text} → Quoted v s t → Quoted w s u → (v ≡ w) × (t ≡ u)
same_quoted {v} {w} s {t} {u} a b = cut_once v w t u (λ i lt. a.no_quote i 0 lt) (λ i lt. b.no_quote i 0 lt) (tails (sym a.text ∙ b.text))

-- what a reader of values returns after the first quote
pub quoted_found : (text behind : Text) (o : Option (Bor Text × Bor Text)) → Sign 34 text behind
    → MatchOption o ((i : ℕ) → i < length behind → get_or behind i 0 ≢ 34)
    (λ x. (behind ≡ x.0.now ++ (34 ∷ x.1.now)) × ((i : ℕ) → i < length x.0.now → get_or x.0.now i 0 ≢ 34))
    → MatchOption o ((v t : Text) → Quoted v text t → ⊥) (λ x. Quoted x.0.now text x.1.now)
quoted_found text behind None at h = λ v t q. absurd (missing behind v t h (tails (sym at ∙ q.text)))
  where
    missing : (behind v t : Text) → ((i : ℕ) → i < length behind → get_or behind i 0 ≢ 34) → behind ≡ v ++ (34 ∷ t) → ⊥
    missing behind v t h e = h (length v) (omega (arith, ap length e, length-append v (34 ∷ t))) (rw (e, get_or-append_seam v 34 t 0) refl)
quoted_found text behind (Some x) at h =
    record { text = at ∙ ap (λ t. 34 ∷ t) h.0; no_quote = λ i d lt. default i d lt (h.1 i lt) }
  where
    default : (i d : ℕ) → i < length x.0.now → get_or x.0.now i 0 ≢ 34 → get_or x.0.now i d ≢ 34
    default i d lt ne e = ne (get_or_default x.0.now i 0 d lt ∙ e)

pub quoted_rest : (text behind : Text) (o : Option (Bor Text × Bor Text)) → IsRest text behind
    → MatchOption o ((i : ℕ) → i < length behind → get_or behind i 0 ≢ 34)
    (λ x. (behind ≡ x.0.now ++ (34 ∷ x.1.now)) × ((i : ℕ) → i < length x.0.now → get_or x.0.now i 0 ≢ 34))
    → IfSome o (λ x. IsRest text x.1.now)
quoted_rest text behind None rest h = tt
quoted_rest text behind (Some x) rest h =
    rest_along text behind x.1.now rest (rest_along behind (34 ∷ x.1.now) x.1.now (x.0.now, h.0) (34 ∷ [], refl))
