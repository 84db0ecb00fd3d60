-- Sequences of the characters of a text, and texts as bytes and as characters.
use Rattle.std.proofs.Common.{◌≡◌, ◌↔◌, ◌∙◌, ◌++◌, ℕ, IsUtf8, List, [], ◌∷◌, ap, length, refl, subst, sym, take, arith, rules}
use Rattle.std.proofs.lemmas.List.{append-nil, append_assoc, take_at}
use Rattle.std.proofs.lemmas.Str.{IsUtf8-take, chars-append, chars-nil, encodes-append, encodes-chars}
use Rattle.std.specs.{Prelude.chars, Prelude.encode_utf8_all, Str.Iter.HasSubslice}
use Rattle.filterset_matchers.proofs.PlainLemmas.{begins_a_character}
use Rattle.filterset_texts.specs.{Cuts.HoldInTurn, Cuts.HoldTogether, Parts.Fits, declared.part.Part.Part}
use Rattle.filterset_texts.proofs.Cuts.{together_back, together_then, in_turn_both, in_turn_assoc, nothing_in_turn}
use Rattle.filterset_texts.proofs.Sequences.{fits_append}
use Rattle.filterset_texts.specs.declared.part.Part.TheVariants as part

-- the text and no other
abbrev pub IsText : List ℕ → List ℕ → Type 0
IsText own text = text ≡ own

texts_append : (front back : List ℕ) → HoldTogether (HoldInTurn (IsText front) (IsText back)) (IsText (front ++ back))
texts_append front back text = search (rules, arith)

-- a character more
pub spelled_more : (start sequence : List Part) (spelled : List ℕ) (c : ℕ) (one : Part) → HoldTogether (Fits (one ∷ [])) (IsText (c ∷ []))
    → HoldTogether (Fits sequence) (HoldInTurn (Fits start) (IsText spelled)) → HoldTogether (Fits (sequence ++ one ∷ [])) (HoldInTurn (Fits start) (IsText (spelled ++ c ∷ [])))
spelled_more start sequence spelled c one own so_far =
    let S = Fits start in let T = IsText spelled in let O = IsText (c ∷ []) in let A = Fits (sequence ++ one ∷ []) in
    let same : HoldTogether S S = λ text. (λ s. s, λ s. s) in
    together_then A (HoldInTurn (Fits sequence) (Fits (one ∷ []))) (HoldInTurn S (IsText (spelled ++ c ∷ []))) (fits_append sequence (one ∷ []))
    (together_then (HoldInTurn (Fits sequence) (Fits (one ∷ []))) (HoldInTurn (HoldInTurn S T) O) (HoldInTurn S (IsText (spelled ++ c ∷ []))) (in_turn_both (Fits sequence) (Fits (one ∷ [])) (HoldInTurn S T) O so_far own)
    (together_then (HoldInTurn (HoldInTurn S T) O) (HoldInTurn S (HoldInTurn T O)) (HoldInTurn S (IsText (spelled ++ c ∷ []))) (in_turn_assoc S T O)
    (in_turn_both S (HoldInTurn T O) S (IsText (spelled ++ c ∷ [])) same (texts_append spelled (c ∷ [])))))

-- an empty sequence to which a text is appended
pub spelled_alone : (sequence : List Part) (own : List ℕ) → HoldTogether (Fits sequence) (HoldInTurn (Fits []) (IsText own)) → HoldTogether (Fits sequence) (IsText own)
spelled_alone sequence own are =
    together_then (Fits sequence) (HoldInTurn (Fits []) (IsText own)) (IsText own) are (together_back (IsText own) (HoldInTurn (Fits []) (IsText own)) (nothing_in_turn (IsText own)))

-- a text between any two
pub spelled_within : (sequence : List Part) (own : List ℕ) → HoldTogether (Fits sequence) (HoldInTurn (Fits (part.Any ∷ [])) (IsText own))
    → HoldTogether (Fits (sequence ++ part.Any ∷ [])) (λ text. HasSubslice text own)
spelled_within sequence own are text =
    let cut = fits_append sequence (part.Any ∷ []) text in (
      λ f.
          let h = cut.0 f in
          let front = (are h.0).0 h.3 in
          (front.0, h.1, h.2 ∙ ap (λ z. z ++ h.1) (front.2 ∙ ap (λ z. front.0 ++ z) front.4) ∙ append_assoc front.0 own h.1),
      λ (h : HasSubslice text own).
          cut.1 (h.0 ++ own, h.1, h.2 ∙ sym (append_assoc h.0 own h.1), (are (h.0 ++ own)).1 (h.0, own, refl, (h.0, [], sym (append-nil h.0), refl), refl), (h.1, [], sym (append-nil h.1), refl)),
    )

-- texts are equal if their characters are
pub equal_by_chars : (text value : List ℕ) → IsUtf8 text → IsUtf8 value → (chars text ≡ chars value) ↔ (text ≡ value)
equal_by_chars text value spelled own = (
  λ e. sym (encodes-chars text spelled) ∙ ap encode_utf8_all e ∙ encodes-chars value own,
  λ e. ap chars e,
)

-- a text that contains another does so by its characters
within_chars : (text value : List ℕ) → IsUtf8 text → IsUtf8 value → HasSubslice text value → HasSubslice (chars text) (chars value)
within_chars text [] spelled own h = ([], chars text, ap (λ z. z ++ chars text) (sym chars-nil))
within_chars text (c ∷ cs) spelled own (a, b, e) =
    let begins = begins_a_character text a b c cs own e in
    let front : IsUtf8 a = subst IsUtf8 (ap (take (length a)) e ∙ take_at a ((c ∷ cs) ++ b) (length a) refl) (IsUtf8-take text (length a) spelled begins) in
    (chars a, chars b, ap chars e ∙ chars-append a ((c ∷ cs) ++ b) front ∙ ap (λ z. chars a ++ z) (chars-append (c ∷ cs) b own))

-- a text contains another if its characters do
pub contains_by_chars : (text value : List ℕ) → IsUtf8 text → IsUtf8 value → HasSubslice (chars text) (chars value) ↔ HasSubslice text value
contains_by_chars text value spelled own = (
  λ (h : HasSubslice (chars text) (chars value)). (
    encode_utf8_all h.0,
    encode_utf8_all h.1,
    sym (encodes-chars text spelled) ∙ ap encode_utf8_all h.2 ∙ encodes-append h.0 (chars value ++ h.1)
        ∙ ap (λ z. encode_utf8_all h.0 ++ z) (encodes-append (chars value) h.1 ∙ ap (λ z. z ++ encode_utf8_all h.1) (encodes-chars value own)),
  ),
  within_chars text value spelled own,
)
