-- A pattern of which each character stands for itself matches where the text stands that it stands for.
use Rattle.std.proofs.Common.{◌≡◌, ◌↔◌, ◌+◌, ℕ, List, [], ◌∷◌, ◌++◌, true, false, inl, inr, Option, Some, None, option_map, slice_get, add-zero, length, take, drop, get_or, ◌<◌, refl, sym, ap, ◌∙◌, subst, arith, encode_utf8_all}
use Rattle.std.proofs.lemmas.List.{get_or-drop, length-append, take-append-drop}
use Rattle.std.proofs.lemmas.Option.{same_Some, slice_get-get_or}
use Rattle.std.proofs.{Math.Seq.drop-append_seam, lemmas.Str.IsCharBoundary-start}
use Rattle.std.specs.Str.{chars, IsCharBoundary, IsUtf8, Iter.HasSubslice}
use Rattle.regex_hir.proofs.{OptionLemmas.value_of_IsSome, TextLemmas.has_bytes_at_from, TextLemmas.has_bytes_at_parts}
use Rattle.regex_hir.specs.Text.{is_boundary}
use Rattle.regex_syntax.specs.{Grammar.read, Verdict.ReadsAsText}
use Rattle.regex.specs.Patterns.{literal, default_config}
use Rattle.regex.proofs.Utf8Lemmas.{IsCharBoundary-of_test, test_of_IsCharBoundary}
use Rattle.filterset_matchers.proofs.PatternLemmas.{IsSomeAnd-map, IsSomeAnd-both, found_alike, found_exactly}
use Rattle.filterset_matchers.proofs.PlainReading.{IsUtf8-meant, plain_reads}
use Rattle.filterset_matchers.specs.Pattern.{HasMatch, IsChoice, IsPattern, IsPlain, MatchesSomewhere, MayBeRejected, plain_from, plain_text}

-- the characters that a plain pattern stands for
record Meant (pattern text : List ℕ) : Type 0 where
  pub characters : List ℕ
  pub plain : plain_from false (chars pattern) ≡ Some characters
  pub are : text ≡ encode_utf8_all characters

meant_of : (pattern text : List ℕ) → plain_text pattern ≡ Some text → Meant pattern text
meant_of pattern text e = at (plain_from false (chars pattern)) refl e
  where
    at : (o : Option (List ℕ)) → plain_from false (chars pattern) ≡ o → option_map encode_utf8_all o ≡ Some text → Meant pattern text
    at None is e = absurd cc
    at (Some cs) is e = record { characters = cs; plain = is; are = sym (same_Some _ _ e) }

reads_as_meant : (pattern text : List ℕ) → IsUtf8 pattern → plain_text pattern ≡ Some text → ReadsAsText pattern text
reads_as_meant pattern text utf8 plain =
    let meant = meant_of pattern text plain in
    subst (ReadsAsText pattern) (sym meant.are) (plain_reads pattern meant.characters utf8 meant.plain)

IsUtf8-of_plain : (pattern text : List ℕ) → IsUtf8 pattern → plain_text pattern ≡ Some text → IsUtf8 text
IsUtf8-of_plain pattern text utf8 plain =
    let meant = meant_of pattern text plain in
    subst IsUtf8 (sym meant.are) (IsUtf8-meant pattern meant.characters utf8 meant.plain)

IsPattern-of_plain : (pattern text : List ℕ) → IsUtf8 pattern → plain_text pattern ≡ Some text → IsPattern pattern
unfolding ReadsAsText
IsPattern-of_plain pattern text spelled plain =
    IsSomeAnd-map (read default_config (chars pattern)) (reads_as_meant pattern text spelled plain default_config refl refl) (λ x reading. omega (arith, reading.0))

-- no plain pattern is rejected
pub not_plain : (pattern : List ℕ) → IsUtf8 pattern → MayBeRejected pattern → ¬ IsPlain pattern
not_plain pattern spelled (inl unread) = λ plain.
    let text = value_of_IsSome (plain_text pattern) plain in absurd (unread (IsPattern-of_plain pattern text.0 spelled text.1))
not_plain pattern spelled (inr large) = large.not_plain

-- a character of the text begins where another text stands that is not empty
pub begins_a_character : (text a b : List ℕ) (c : ℕ) (cs : List ℕ) → IsUtf8 (c ∷ cs) → text ≡ a ++ ((c ∷ cs) ++ b) → IsCharBoundary text (length a)
unfolding is_boundary
begins_a_character text a b c cs spelled e =
    let from : drop (length a) text ≡ c ∷ (cs ++ b) = ap (drop (length a)) e ∙ drop-append_seam a (c ∷ (cs ++ b)) in
    let long : length text ≡ length a + length (c ∷ (cs ++ b)) = ap length e ∙ length-append a (c ∷ (cs ++ b)) in
    let first : get_or text (length a) 0 ≡ c = ap (λ k. get_or text k 0) (sym (add-zero (length a))) ∙ sym (get_or-drop (length a) text 0 0) ∙ ap (λ xs. get_or xs 0 0) from in
    let at : slice_get text (length a) ≡ Some c = slice_get-get_or text (length a) 0 (omega (arith, long)) ∙ ap Some first in
    let test : is_boundary text (length a) ≡ true = rw at (test_of_IsCharBoundary (c ∷ cs) 0 (IsCharBoundary-start (c ∷ cs) spelled)) in
    IsCharBoundary-of_test text (length a) (omega (arith, long)) test

stands_somewhere : (text pattern : List ℕ) → IsUtf8 text → IsUtf8 pattern → HasSubslice text pattern → MatchesSomewhere (literal pattern) text
stands_somewhere text [] whole spelled stands = (0, 0, IsCharBoundary-start text whole, (has_bytes_at_from text 0 [] text refl, refl))
stands_somewhere text (c ∷ cs) whole spelled (a, b, e) =
    (length a, length a + length (c ∷ cs), begins_a_character text a b c cs spelled e, (has_bytes_at_from text (length a) (c ∷ cs) b (ap (drop (length a)) e ∙ drop-append_seam a (c ∷ (cs ++ b))), refl))

stands_where_it_matches : (text pattern : List ℕ) → MatchesSomewhere (literal pattern) text → HasSubslice text pattern
stands_where_it_matches text pattern (i, j, begins, (has, end)) =
    (take i text, drop (i + length pattern) text, sym (take-append-drop i text) ∙ ap (λ xs. take i text ++ xs) (has_bytes_at_parts text i pattern has))

HasMatch-of_plain : (pattern plain text : List ℕ) → IsUtf8 pattern → plain_text pattern ≡ Some plain → IsUtf8 text → ((k : ℕ) → get_or text k 0 < 256) →
    HasSubslice text plain ↔ HasMatch pattern text
unfolding ReadsAsText
HasMatch-of_plain pattern plain text spelled is whole bytes =
    let reading = reads_as_meant pattern plain spelled is default_config refl refl in
    let o = read default_config (chars pattern) in (
      λ stands. IsSomeAnd-map o reading (λ x h. (found_exactly x.0.value text).0
          (rw (found_alike _ (literal plain) h.1 text bytes) ((found_exactly (literal plain) text).1 (stands_somewhere text plain whole (IsUtf8-of_plain pattern plain spelled is) stands)))),
      λ has. IsSomeAnd-both o reading has (λ x h somewhere. stands_where_it_matches text plain ((found_exactly (literal plain) text).0
          (rw (sym (found_alike _ (literal plain) h.1 text bytes)) ((found_exactly x.0.value text).1 somewhere)))),
    )

-- a plain pattern is the choice of the text alone that it stands for
pub IsChoice-of_plain : (pattern plain : List ℕ) → IsUtf8 pattern → plain_text pattern ≡ Some plain → IsChoice pattern (plain ∷ [])
IsChoice-of_plain pattern plain spelled is = record {
  read = IsPattern-of_plain pattern plain spelled is;
  finds = λ input whole bytes.
      let means = HasMatch-of_plain pattern plain input spelled is whole bytes in (
        λ has. (0, plain, omega arith, refl, means.1 has),
        λ (k, text, within, at, stands).
            let first : k ≡ 0 = omega arith in
            let same : plain ≡ text = sym (ap (λ n. get_or (plain ∷ []) n text) first) ∙ at in
            means.0 (subst (HasSubslice input) (sym same) stands),
      );
}
