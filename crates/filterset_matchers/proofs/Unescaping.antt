-- How the text of a plain pattern is found, character by character.
use Rattle.std.proofs.Common.{◌≡◌, ◌<◌, ◌+◌, ℕ, Bool, true, false, List, [], ◌∷◌, ◌++◌, Option, Some, None, option_map, length, drop, get_or, encode_utf8, encode_utf8_all, refl, sym, ap, ◌∙◌, ne_eqb, append_assoc}
use Rattle.std.proofs.lemmas.List.{at_drop_more, length_push}
use Rattle.filterset_matchers.specs.Pattern.{has_meaning, is_escapable, plain_from}

-- the text that the pattern stands for, where so much of it is found and this is left
abbrev pub goes_on : Bool → List ℕ → List ℕ → Option (List ℕ)
goes_on escaped found rest = option_map (λ (cs : List ℕ). found ++ encode_utf8_all cs) (plain_from escaped rest)

-- one more character is found
found_more : (found : List ℕ) (c : ℕ) (o : Option (List ℕ)) →
    option_map (λ (cs : List ℕ). found ++ encode_utf8_all cs) (option_map (λ (cs : List ℕ). c ∷ cs) o)
    ≡ option_map (λ (cs : List ℕ). (found ++ encode_utf8 c) ++ encode_utf8_all cs) o
found_more found c None = refl
found_more found c (Some cs) = ap Some (sym (append_assoc found (encode_utf8 c) (encode_utf8_all cs)))

pub passes_escaped : (found rest : List ℕ) (c : ℕ) → is_escapable c ≡ true → goes_on true found (c ∷ rest) ≡ goes_on false (found ++ encode_utf8 c) rest
passes_escaped found rest c fits = rw fits (found_more found c (plain_from false rest))

pub passes_plain : (found rest : List ℕ) (c : ℕ) → ¬ (c ≡ 0x5C) → has_meaning c ≡ false → goes_on false found (c ∷ rest) ≡ goes_on false (found ++ encode_utf8 c) rest
passes_plain found rest c no_slash plain = rw (plain, ne_eqb c 0x5C no_slash) (found_more found c (plain_from false rest))

pub passes_slash : (found rest : List ℕ) (c : ℕ) → c ≡ 0x5C → goes_on false found (c ∷ rest) ≡ goes_on true found rest
passes_slash found rest c slash = rw slash refl

pub stops_escaped : (found rest : List ℕ) (c : ℕ) → is_escapable c ≡ false → goes_on true found (c ∷ rest) ≡ None
stops_escaped found rest c not_fit = rw not_fit refl

pub stops_special : (found rest : List ℕ) (c : ℕ) → ¬ (c ≡ 0x5C) → has_meaning c ≡ true → goes_on false found (c ∷ rest) ≡ None
stops_special found rest c no_slash special = rw (special, ne_eqb c 0x5C no_slash) refl

-- the next character, and what is left after it
pub turned : (escaped : Bool) (found text yielded : List ℕ) (c : ℕ) (whole : Option (List ℕ)) → (length yielded < length text) × (c ≡ get_or text (length yielded) c) →
    goes_on escaped found (drop (length yielded) text) ≡ whole → goes_on escaped found (c ∷ drop (length (yielded ++ c ∷ [])) text) ≡ whole
turned escaped found text yielded c whole turn so_far =
    ap (λ k. goes_on escaped found (c ∷ drop k text)) (length_push yielded c)
    ∙ ap (λ x. goes_on escaped found (x ∷ drop (length yielded + 1) text)) turn.1
    ∙ sym (at_drop_more (goes_on escaped found) text (length yielded) c turn.0)
    ∙ so_far
