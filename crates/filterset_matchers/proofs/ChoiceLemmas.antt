-- A pattern whose expression is a choice among texts has a match where one of them stands.
use Rattle.std.proofs.Common.{◌≡◌, ◌⊎◌, ℕ, zero, suc, List, [], ◌∷◌, ◌++◌, All, length, take, drop, ◌<◌, refl, sym, ap, ◌∙◌, subst, inl, inr, ⊎_elim, arith, IsUtf8, IsCharBoundary, true≢false, take-append-drop}
use Rattle.std.proofs.lemmas.{Bool.cases_Bool, List.get_or_default, List.Elements.All-head, List.Elements.All-tail}
use Rattle.std.proofs.{lemmas.Option.none-some, Math.Seq.drop-append_seam}
use Rattle.regex_hir.specs.{Re.accept, Re.attempt, Meaning.meaning, declared.hir.Hir.Hir, Text.has_bytes_at}
use Rattle.regex_hir.proofs.{AttemptLemmas.attempt_complete, OptionLemmas.option_cases, OptionLemmas.value_of_IsSome}
use Rattle.regex_hir.proofs.TextLemmas.{has_bytes_at_from, has_bytes_at_parts}
use Rattle.regex_literal.specs.Find.{OccursAt, AnyOccursAt, FirstNeedleAt, needle_at}
use Rattle.regex_literal.proofs.lemmas.FindLemmas.{OccursAt-part}
use Rattle.regex_extract.specs.{Exact.IsChoiceOf, Exact.end_of, Needles.AreFilled}
use Rattle.regex_extract.proofs.NeedlesLemmas.{OccursAt-of_drop}
use Rattle.regex.specs.Patterns.{Re}
use Rattle.filterset_matchers.proofs.PatternLemmas.{HasMatch-of_tree, Matches-of_attempt, IsPattern-of_tree, are_bytes}
use Rattle.filterset_matchers.proofs.PlainLemmas.{begins_a_character}
use Rattle.filterset_matchers.specs.{Compiled.IsReadAs, Pattern.HasOneOf, Pattern.IsChoice, Pattern.MatchesSomewhere}

-- ---- whether a needle occurs at a place

from_occurrence : (input needle : List ℕ) (k : ℕ) → OccursAt input needle k → drop k input ≡ needle ++ drop (length needle) (drop k input)
from_occurrence input needle k occurs =
    let n = length needle in
    sym (take-append-drop n (drop k input)) ∙ ap (λ front. front ++ drop n (drop k input)) (OccursAt-part input needle k n refl occurs.fits occurs)

occurs_or_not : (input needle : List ℕ) (k : ℕ) → 0 < length needle → OccursAt input needle k ⊎ (¬ OccursAt input needle k)
occurs_or_not input needle k filled =
    elim (cases_Bool (has_bytes_at input k needle)) [
      | inl there ↦ inl (OccursAt-of_drop input needle _ k (has_bytes_at_parts input k needle there) filled)
      | inr not ↦ inr (λ occurs. absurd (true≢false (sym (has_bytes_at_from input k needle _ (from_occurrence input needle k occurs)) ∙ not)))
    ]

-- the first needle that occurs at the place, where there is one
abbrev FirstOrNone : List ℕ → List (List ℕ) → ℕ → Type 0
FirstOrNone input needles k = ((n : ℕ) × FirstNeedleAt input needles k n) ⊎ (¬ AnyOccursAt input needles k)

module _ (input : List ℕ) (k : ℕ) (needle : List ℕ) (needles : List (List ℕ)) (not : ¬ OccursAt input needle k) where
  none_earlier : (n : ℕ) → ((m : ℕ) → m < n → ¬ OccursAt input (needle_at needles m) k) →
      (m : ℕ) → m < suc n → ¬ OccursAt input (needle_at (needle ∷ needles) m) k
  none_earlier n others zero below = not
  none_earlier n others (suc m) below = others m (omega arith)

  none_at_all : ¬ AnyOccursAt input needles k → (n : ℕ) → n < suc (length needles) → ¬ OccursAt input (needle_at (needle ∷ needles) n) k
  none_at_all others zero within = not
  none_at_all others (suc n) within = λ occurs. others (n, omega arith, occurs)

  among_others : FirstOrNone input needles k → FirstOrNone input (needle ∷ needles) k
  among_others (inl (n, first)) = inl (suc n, record { within = omega (arith, first.within); occurs = first.occurs; earliest = none_earlier n first.earliest })
  among_others (inr others) = inr (λ (n, within, occurs). none_at_all others n (omega (arith, within)) occurs)

first_or_none : (input : List ℕ) (k : ℕ) (needles : List (List ℕ)) → AreFilled needles → FirstOrNone input needles k
first_or_none input k [] filled = inr (λ (n, within, occurs). omega (arith, within))
first_or_none input k (needle ∷ needles) filled =
    ⊎_elim
    (λ occurs. inl (0, record { within = omega arith; occurs = occurs; earliest = λ m below. absurd (omega arith) }))
    (λ not. among_others input k needle needles not (first_or_none input k needles (All-tail (λ n. 0 < length n) needle needles filled)))
    (occurs_or_not input needle k (All-head (λ n. 0 < length n) needle needles filled))

-- ---- where the expression matches

-- a character begins where a text stands that is not empty
begins_there : (input a text b : List ℕ) → 0 < length text → IsUtf8 text → input ≡ a ++ (text ++ b) → IsCharBoundary input (length a)
begins_there input a [] b filled whole e = absurd (omega arith)
begins_there input a (c ∷ cs) b filled whole e = begins_a_character input a b c cs whole e

module _ (re : Re) (needles : List (List ℕ)) (choice : IsChoiceOf re needles) (filled : AreFilled needles) (input : List ℕ) (bytes : All (λ b. b < 256) input) where
  stands_where_it_matches : MatchesSomewhere re input → HasOneOf needles input
  stands_where_it_matches (i, j, begins, matches) =
      let found = value_of_IsSome (attempt input re accept i) (attempt_complete input re accept i j matches refl) in
      ⊎_elim
      (λ (n, first).
      let needle = needle_at needles n in (
        n,
        needle,
        first.within,
        get_or_default needles n needle [] first.within,
        (take i input, drop (length needle) (drop i input), sym (take-append-drop i input) ∙ ap (λ rest. take i input ++ rest) (from_occurrence input needle i first.occurs)),
      ))
      (λ none. absurd (none-some found.0 (sym (choice.missing input bytes i none) ∙ found.1)))
      (first_or_none input i needles filled)

  matches_where_it_stands : All IsUtf8 needles → HasOneOf needles input → MatchesSomewhere re input
  matches_where_it_stands spelled (n, text, within, is, (a, b, e)) =
      let i = length a in
      let long : 0 < length text = subst (λ t. 0 < length t) is (filled n text within) in
      let whole : IsUtf8 text = subst IsUtf8 is (spelled n text within) in
      let occurs : OccursAt input text i = OccursAt-of_drop input text b i (ap (drop i) e ∙ drop-append_seam a (text ++ b)) long in
      let listed : OccursAt input (needle_at needles n) i = subst (λ t. OccursAt input t i) (sym is ∙ get_or_default needles n text [] within) occurs in
      ⊎_elim
      (λ (m, first).
      ⊎_elim
      (λ none. absurd (none-some _ (sym (ap end_of none) ∙ choice.found input bytes i m first)))
      (λ (t, found). (i, t.end, begins_there input a text b long whole e, Matches-of_attempt re input i t found))
      (option_cases (attempt input re accept i)))
      (λ none. absurd (none (n, within, listed)))
      (first_or_none input i needles filled)

-- ---- where the pattern matches

pub IsChoice-of_tree : (pattern : List ℕ) (tree : Hir) (needles : List (List ℕ)) → IsReadAs pattern tree → IsChoiceOf (meaning tree) needles →
    AreFilled needles → All IsUtf8 needles → IsChoice pattern needles
IsChoice-of_tree pattern tree needles reading choice filled spelled =
    let re = meaning tree in record {
      read = IsPattern-of_tree pattern tree reading;
      finds = λ input whole bytes.
          let small = are_bytes input bytes in
          let tells = HasMatch-of_tree pattern tree reading input bytes in (
            λ has. stands_where_it_matches re needles choice filled input small (tells.0 has),
            λ stands. tells.1 (matches_where_it_stands re needles choice filled input small spelled stands),
          );
    }
