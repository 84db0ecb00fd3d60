-- Runs of characters that print as they are.
use Rattle.std.proofs.Common.{◌≡◌, ◌∙◌, ◌<◌, ◌≤◌, ℕ, arith, List, [], ◌∷◌, ◌++◌, refl, sym, ap, subst, take, drop, length, length-append, append_assoc, append-nil, IsUtf8, IsAscii, IsCharBoundary}
use Rattle.std.specs.Prelude.{All, ◌==◌, chars, codes, encode_utf8, encode_utf8_all, Some, None}
use Rattle.std.specs.{List.flat_map, Str.NonePass, Str.Pattern.FindsChar}
use Rattle.std.proofs.lemmas.{Grind.flat_map-append, List.take-append-drop}
use Rattle.std.proofs.lemmas.List.Elements.{All-head, All-tail, All-weaker}
use Rattle.std.proofs.lemmas.Str.{IsCharBoundary-from_take, IsUtf8-drop, IsUtf8-from_ascii, IsUtf8-past_char, chars-IsAscii, chars-append, chars-nil, chars_from_encodes, chars_past_char, encode_ascii, encodes-append, encodes-chars}
use Rattle.std.proofs.lemmas.Str.Ascii.{IsAscii-from_all}
use Rattle.filterset_matchers.specs.PrintedMatcher.{printed_char, printed_slash, printed_value}
use Rattle.filterset_matchers.specs.Runs.{IsPlain}

run_is_ascii : (run : List ℕ) → All IsPlain run → IsAscii run
run_is_ascii run plain = IsAscii-from_all run (All-weaker IsPlain (λ b. b < 128) (λ b h. h.0) run plain)

-- a text may be cut after a run
pub run_ends : (text : List ℕ) (n : ℕ) → IsUtf8 text → n ≤ length text → All IsPlain (take n text) → IsCharBoundary text n
run_ends text n utf8 within plain =
    IsCharBoundary-from_take text n utf8 within (IsUtf8-from_ascii (take n text) (run_is_ascii (take n text) plain))

-- and what follows is a text
pub text_after_run : (text run rest : List ℕ) → IsUtf8 text → text ≡ run ++ rest → All IsPlain run → IsUtf8 rest
text_after_run text [] rest utf8 whole plain = subst IsUtf8 whole utf8
text_after_run text (c ∷ cs) rest utf8 whole plain =
    let one = encode_ascii c (All-head IsPlain c cs plain).0 in
    let past = IsUtf8-past_char text (cs ++ rest) c utf8 (whole ∙ ap (λ (l : List ℕ). l ++ (cs ++ rest)) (sym one)) in
    text_after_run (cs ++ rest) cs rest past refl (All-tail IsPlain c cs plain)

each_prints : (run : List ℕ) → All IsPlain run → flat_map printed_char run ≡ run
each_prints [] plain = refl
each_prints (c ∷ cs) plain =
    let first : printed_char c ≡ c ∷ [] = (All-head IsPlain c cs plain).1 in
    rw (first, each_prints cs (All-tail IsPlain c cs plain)) refl

-- a value prints its first run as it is, and then what follows
pub run_prints : (value run rest : List ℕ) → value ≡ run ++ rest → All IsPlain run → printed_value value ≡ run ++ printed_value rest
run_prints value run rest whole plain =
    let ascii = run_is_ascii run plain in
    let characters : chars value ≡ run ++ chars rest =
    ap chars whole ∙ chars-append run rest (IsUtf8-from_ascii run ascii) ∙ ap (λ (l : List ℕ). l ++ chars rest) (chars-IsAscii run ascii) in
    ap (flat_map printed_char) characters ∙ flat_map-append printed_char run (chars rest) ∙ ap (λ (l : List ℕ). l ++ printed_value rest) (each_prints run plain)

-- one more character, and the run after it
pub value_goes_on : (value written rest text run behind : List ℕ) (c : ℕ) → IsUtf8 rest → rest ≡ encode_utf8 c ++ text → text ≡ run ++ behind → All IsPlain run →
    printed_value value ≡ written ++ printed_value rest → printed_value value ≡ ((written ++ printed_char c) ++ run) ++ printed_value behind
value_goes_on value written rest text run behind c utf8 first whole plain said =
    let characters : chars rest ≡ c ∷ chars text = chars_past_char rest text c utf8 first in
    let more : printed_value rest ≡ printed_char c ++ (run ++ printed_value behind) =
    ap (flat_map printed_char) characters ∙ ap (λ (l : List ℕ). printed_char c ++ l) (run_prints text run behind whole plain) in
    said ∙ ap (λ (l : List ℕ). written ++ l) more
    ∙ sym (append_assoc written (printed_char c) (run ++ printed_value behind)) ∙ sym (append_assoc (written ++ printed_char c) run (printed_value behind))

-- nothing follows
pub value_ends : (value written rest : List ℕ) → length rest ≡ 0 → printed_value value ≡ written ++ printed_value rest → written ≡ printed_value value
value_ends value written [] none said =
    sym (said ∙ ap (λ (l : List ℕ). written ++ flat_map printed_char l) chars-nil ∙ append-nil written)
value_ends value written (c ∷ cs) none said = absurd (omega (arith, none))

-- ---- patterns

no_slash_prints : (cs : List ℕ) → NonePass (λ d. d == 47) cs → flat_map printed_slash cs ≡ encode_utf8_all cs
no_slash_prints [] none = refl
no_slash_prints (c ∷ cs) none = rw (none.0, no_slash_prints cs none.1) refl

-- the first slash of a pattern, between what prints as it is and the rest
pub slash_stands : (text : List ℕ) (i j : ℕ) → FindsChar 47 text (Some (i, j)) → text ≡ take i text ++ 47 ∷ drop j text
unfolding lib.Utf8.encode
slash_stands text i j found = sym (take-append-drop i text) ∙ ap (λ (l : List ℕ). take i text ++ l) found.1.split

pub text_after_slash : (text : List ℕ) (i j : ℕ) → IsUtf8 text → FindsChar 47 text (Some (i, j)) → IsUtf8 (drop j text)
text_after_slash text i j utf8 found = IsUtf8-drop text j utf8 (subst (IsCharBoundary text) (sym found.1.ends) found.1.after)

slash_splits : (text : List ℕ) (i j : ℕ) → IsUtf8 text → FindsChar 47 text (Some (i, j)) →
    flat_map printed_slash (chars text) ≡ take i text ++ (codes "\\/" ++ flat_map printed_slash (chars (drop j text)))
unfolding lib.Utf8.encode
slash_splits text i j utf8 found =
    let cs = found.0.0 in
    let ds = chars (drop j text) in
    let before : encode_utf8_all cs ≡ take i text = found.0.1 in
    let behind : encode_utf8_all ds ≡ drop j text = encodes-chars (drop j text) (text_after_slash text i j utf8 found) in
    let spelled : encode_utf8_all (cs ++ 47 ∷ ds) ≡ text =
    encodes-append cs (47 ∷ ds) ∙ ap (λ (l : List ℕ). l ++ 47 ∷ encode_utf8_all ds) before ∙ ap (λ (l : List ℕ). take i text ++ 47 ∷ l) behind ∙ sym (slash_stands text i j found) in
    let characters : chars text ≡ cs ++ 47 ∷ ds = sym (chars_from_encodes (cs ++ 47 ∷ ds) text utf8 spelled) in
    ap (flat_map printed_slash) characters ∙ flat_map-append printed_slash cs (47 ∷ ds)
    ∙ ap (λ (l : List ℕ). l ++ (codes "\\/" ++ flat_map printed_slash ds)) (no_slash_prints cs found.0.2 ∙ before)

-- one more run, and the slash after it
pub pattern_goes_on : (pattern written rest run after : List ℕ) (i j : ℕ) → IsUtf8 rest → FindsChar 47 rest (Some (i, j)) → run ≡ take i rest → after ≡ drop j rest →
    flat_map printed_slash (chars pattern) ≡ written ++ flat_map printed_slash (chars rest) →
    flat_map printed_slash (chars pattern) ≡ ((written ++ run) ++ codes "\\/") ++ flat_map printed_slash (chars after)
pattern_goes_on pattern written rest run after i j utf8 found is_run is_after said =
    let split = slash_splits rest i j utf8 found in
    let more : flat_map printed_slash (chars rest) ≡ run ++ (codes "\\/" ++ flat_map printed_slash (chars after)) = rw (is_run, is_after) split in
    said ∙ ap (λ (l : List ℕ). written ++ l) more
    ∙ sym (append_assoc written run (codes "\\/" ++ flat_map printed_slash (chars after))) ∙ sym (append_assoc (written ++ run) (codes "\\/") (flat_map printed_slash (chars after)))

-- a rest without a slash prints as it is
pub pattern_ends : (pattern written rest : List ℕ) → IsUtf8 rest → FindsChar 47 rest None →
    flat_map printed_slash (chars pattern) ≡ written ++ flat_map printed_slash (chars rest) → written ++ rest ≡ flat_map printed_slash (chars pattern)
pattern_ends pattern written rest utf8 none said =
    let characters : chars rest ≡ none.0 = sym (chars_from_encodes none.0 rest utf8 none.1) in
    sym (said ∙ ap (λ (l : List ℕ). written ++ l) (ap (flat_map printed_slash) characters ∙ no_slash_prints none.0 none.2 ∙ none.1))

-- so it gets shorter
pub shorter_after_slash : (rest after : List ℕ) (i j : ℕ) → FindsChar 47 rest (Some (i, j)) → after ≡ drop j rest → length after < length rest
shorter_after_slash rest after i j found is_after =
    let long = ap length (slash_stands rest i j found) ∙ length-append (take i rest) (47 ∷ drop j rest) in
    let same = ap length is_after in
    omega (arith, long, same)
