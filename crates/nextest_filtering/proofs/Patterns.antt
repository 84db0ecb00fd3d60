-- Texts one of which each name contains that a matcher matches.
use Rattle.std.proofs.Common.{◌≡◌, ℕ, ◌+◌, ◌/◌, ◌%◌, ◌<◌, true, List, [], ◌∷◌, All, IsUtf8, inl, inr, ⊎_elim, refl, sym, ap, ◌∙◌, subst, length, map, get_or, arith}
use Rattle.std.proofs.Math.Utf8.{scalars}
use Rattle.std.proofs.lemmas.{Bool.and_parts, Bool.cases_lt, List.get_or_default, List.get_or_past, List.get_or-map}
use Rattle.std.proofs.lemmas.{List.Elements.All-append, List.Elements.All-cons, List.Elements.All-nil, Str.encode_ascii}
use Rattle.std.specs.{Char.IsScalar, Char.encode_utf8, Global.Global}
use Rattle.std.specs.Prelude.{IfOk, IfSome, Option, Some, None, Result, Ok, Err, Vec}
use Rattle.std.specs.Str.{encode_utf8_all, Iter.HasSubslice}
use Rattle.regex_extract.specs.Needles.{ContainsNeedle, needles_of}
use Rattle.regex_hir.specs.{Meaning.meaning, declared.hir.Hir.Hir}
use Rattle.regex_hir.proofs.Utf8Lemmas.{InScalarRange-of_IsScalar, encode_two, encode_three, encode_four}
use Rattle.regex_literal.specs.Find.{needle_at}
use Rattle.regex_literal.proofs.lemmas.FindLemmas.{OccursAt-part}
use Rattle.filterset_matchers.proofs.{PatternLemmas.HasMatch-of_tree, Substrings.stands_somewhere}
use Rattle.filterset_matchers.specs.{Compiled.IsReadAs, Matcher.Regex, Matcher.Matcher, Matcher.MatchesName}
use Rattle.nextest_filtering.specs.Candidates.{OneStandsInNames}

-- a text alone
pub alone_stands : {E : Type 0} (matcher : Matcher) (text : List ℕ) (found : Result (Option (Vec (Vec ℕ Global) Global)) E)
    → ((name : List ℕ) → IsUtf8 name → MatchesName matcher name → HasSubslice name text)
    → IfOk found (λ o. IfSome o (λ texts. needles_of texts ≡ text ∷ [])) → IfOk found (λ o. IfSome o (λ texts. OneStandsInNames matcher (needles_of texts)))
alone_stands matcher text (Ok (Some texts)) stands alone = λ name whole matches. rw alone (0, text, omega arith, refl, stands name whole matches)
alone_stands matcher text (Ok None) stands alone = tt
alone_stands matcher text (Err e) stands alone = tt

pub text_here : (texts : List (Vec ℕ Global)) (k : ℕ) (text : Vec ℕ Global) → k < length texts → text ≡ get_or texts k text
    → get_or (map (λ t. t.items) texts) k [] ≡ text.items
text_here texts k text within is = get_or-map (λ t. t.items) texts k text [] within ∙ ap (λ t. t.items) (sym is)

abbrev AreBytes : List ℕ → Type 0
AreBytes bs = All (λ b. b < 256) bs

one_more : (b : ℕ) (bs : List ℕ) → b < 256 → AreBytes bs → AreBytes (b ∷ bs)
one_more b bs small rest = All-cons (λ n. n < 256) b bs small rest

none : AreBytes []
none = All-nil (λ n. n < 256)

next_byte : (n : ℕ) → 128 + n % 64 < 256
next_byte n = omega arith

bytes_of_char : (c : ℕ) → IsScalar c → AreBytes (encode_utf8 c)
bytes_of_char c is = ⊎_elim
    (λ one. subst AreBytes (sym (encode_ascii c one)) (one_more c [] (omega (arith, one)) none))
    (λ past_one. ⊎_elim
    (λ two. subst AreBytes (sym (encode_two c past_one two)) (one_more (192 + c / 64) ((128 + c % 64) ∷ []) (omega (arith, two)) last))
    (λ past_two. ⊎_elim
    (λ three. subst AreBytes (sym (encode_three c past_two three)) (one_more (224 + c / 4096) ((128 + (c / 64) % 64) ∷ (128 + c % 64) ∷ []) (omega (arith, three)) last_two))
    (λ four. subst AreBytes (sym (encode_four c four))
    (one_more (240 + c / 262144) ((128 + (c / 4096) % 64) ∷ (128 + (c / 64) % 64) ∷ (128 + c % 64) ∷ []) (omega (arith, high))
    (one_more (128 + (c / 4096) % 64) ((128 + (c / 64) % 64) ∷ (128 + c % 64) ∷ []) (next_byte (c / 4096)) last_two)))
    (cases_lt c 0x1_0000)) (cases_lt c 0x800)) (cases_lt c 0x80)
  where
    last : AreBytes ((128 + c % 64) ∷ [])
    last = one_more (128 + c % 64) [] (next_byte c) none

    last_two : AreBytes ((128 + (c / 64) % 64) ∷ (128 + c % 64) ∷ [])
    last_two = one_more (128 + (c / 64) % 64) ((128 + c % 64) ∷ []) (next_byte (c / 64)) last

    high : c < 0x11_0000
    high = ⊎_elim (λ low. omega (arith, low)) (λ upper. omega (arith, upper.1)) (InScalarRange-of_IsScalar c is)

bytes_of_chars : (cs : List ℕ) → scalars cs ≡ true → AreBytes (encode_utf8_all cs)
bytes_of_chars [] is = none
bytes_of_chars (c ∷ cs) is =
    let parts = and_parts _ _ is in
    All-append (λ n. n < 256) (encode_utf8 c) (encode_utf8_all cs) (bytes_of_char c parts.0) (bytes_of_chars cs parts.1)

bytes_of_text : (text : List ℕ) → IsUtf8 text → AreBytes text
bytes_of_text text (cs, spells) = subst AreBytes spells.1 (bytes_of_chars cs spells.0)

byte_at : (text : List ℕ) → AreBytes text → (k : ℕ) → get_or text k 0 < 256
byte_at text bytes k = elim (cases_lt k (length text)) [
  | inl here ↦ bytes k 0 here
  | inr past ↦ rw (get_or_past text k 0 past) (omega arith)
]

-- a name in which the pattern of the tree has a match contains a needle of which each match of the tree contains one
pub needles_stand : (pattern : List ℕ) (tree : Hir) (needles : List (List ℕ)) → IsReadAs pattern tree → ContainsNeedle (meaning tree) needles → OneStandsInNames (Regex pattern) needles
needles_stand pattern tree needles reading contains name whole has =
    let bytes = bytes_of_text name whole in
    let at = (HasMatch-of_tree pattern tree reading name (byte_at name bytes)).0 has in
    let found = contains name bytes at.0 at.1 at.3 in
    let needle = needle_at needles found.0 in
    let within = found.2 in (
      found.0,
      needle,
      within.numbered,
      get_or_default needles found.0 needle [] within.numbered,
      stands_somewhere name needle found.1 (OccursAt-part name needle found.1 (length needle) refl within.occurs.fits within.occurs),
    )
