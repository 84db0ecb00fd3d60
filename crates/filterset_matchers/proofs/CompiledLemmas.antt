-- Where the NFA of a compiled pattern finds something, the pattern has a match.
use Rattle.std.proofs.Common.{◌≡◌, ◌↔◌, ℕ, ◌<◌, ◌≤◌, List, Bool, true, false, Option, Some, None, IsTrue, IsSome, IfSome, is_some, option_map, length, All, get_or, refl, sym, ap, ◌∙◌, subst, ⊎_elim, arith, IsUtf8, true≢false}
use Rattle.std.proofs.{Math.Logic.∥∥₁_elim, lemmas.Str.IsCharBoundary-start}
use Rattle.regex_hir.specs.{Find.find, Matches.IsMinLen, Meaning.meaning, Re.Trace, Re.accept, Re.attempt}
use Rattle.regex_hir.proofs.AttemptLemmas.{attempt_complete}
use Rattle.regex_hir.proofs.FindLemmas.{IsFirst-of_first_between, find_complete, find_sound, first_between_cong}
use Rattle.regex_hir.proofs.OptionLemmas.{IsSome-of_value, option_cases, value_of_IsSome}
use Rattle.regex_nfa.specs.{Paths.Accepts, Run.find_in, Run.run, declared.nfa.Nfa.Nfa}
use Rattle.regex_nfa.proofs.{PathsLemmas.no_path_of_run_none, SearchLemmas.run_unanchored}
use Rattle.regex_compile.specs.Implements.{HasPaths, Implements}
use Rattle.regex_dfa.specs.Search.{IsEnd, IsLeast, end_from, entry}
use Rattle.regex_dfa.specs.declared.{forward.End.End, reverse.Start.Start}
use Rattle.regex_extract.specs.Bounds.{IsAnchored}
use Rattle.regex_vm.specs.Found.{first_match}
use Rattle.regex.specs.{Patterns.Matches, Patterns.Re, Writes.HasTextParts}
use Rattle.regex.proofs.Utf8Lemmas.{find_str_of_filled}
use Rattle.filterset_matchers.proofs.PatternLemmas.{HasMatch-of_tree, Matches-of_attempt, are_bytes, found_exactly}
use Rattle.filterset_matchers.specs.Compiled.{IsCompiledOf, IsPlaceOf, told_by_end, told_by_start}
use Rattle.filterset_matchers.specs.Pattern.{HasMatch, MatchesSomewhere}
use Rattle.filterset_matchers.specs.declared.matcher.compiled.{Compiled.Compiled, Place.Place}
use Rattle.filterset_matchers.specs.declared.matcher.compiled.Place.TheVariants as place

-- ---- where the expression matches

module _ (re : Re) (input : List ℕ) (bytes : All (λ b. b < 256) input) where
  -- the first match, where there is one
  the_first : IsSome (find re input 0) → (i : ℕ) × (j : ℕ) × (i ≤ length input) × Matches input re i j
  unfolding find
  the_first found =
      let m = value_of_IsSome (find re input 0) found in
      let first = IsFirst-of_first_between _ 0 (length input) m.0 m.1 in
      (m.0.start, m.0.trace.end, first.to, (find_sound re input 0 m.0 m.1).1)

  found_at : (i j : ℕ) → i ≤ length input → Matches input re i j → IsSome (find re input 0)
  found_at i j within matches = find_complete re input 0 i j (omega arith) within matches

  found_by_attempt : (i : ℕ) → i ≤ length input → IsSome (attempt input re accept i) → IsSome (find re input 0)
  found_by_attempt i within some =
      let t = value_of_IsSome (attempt input re accept i) some in found_at i t.0.end within (Matches-of_attempt re input i t.0 t.1)

  begins_at_start : IsAnchored true re → IsSome (find re input 0) → (j : ℕ) × Matches input re 0 j
  begins_at_start anchored found =
      let (i, j, within, matches) = the_first found in
      (j, subst (λ k. Matches input re k j) (anchored.at input i j within matches) matches)

  is_filled : IsMinLen re 1 → (i : ℕ) (t : Trace) → attempt input re accept i ≡ Some t → i < t.end
  unfolding IsMinLen
  is_filled least i t e = omega (arith, least input i t.end (Matches-of_attempt re input i t e))

  found_between : HasTextParts re → IsMinLen re 1 → IsSome (find re input 0) ↔ MatchesSomewhere re input
  found_between text least = rw (find_str_of_filled re input bytes ∣ text ∣₁ (is_filled least) 0) (found_exactly re input)

  -- a search of bytes finds something exactly where the expression matches between characters
  found_somewhere : (p : Place) → IsPlaceOf re p → HasTextParts re → IsUtf8 input → IsSome (find re input 0) ↔ MatchesSomewhere re input
  found_somewhere place.Start anchored text whole = (
    λ found. let (j, matches) = begins_at_start anchored found in (0, j, IsCharBoundary-start input whole, matches),
    λ (i, j, begins, matches). found_at i j begins.0 matches,
  )
  found_somewhere place.End known text whole = found_between text known.1
  found_somewhere (place.Literal literal) known text whole = found_between text known.1

-- ---- what the engines tell

some_of_map : {A B : Type 0} (f : A → B) (o : Option A) → is_some (option_map f o) ≡ is_some o
some_of_map f None = refl
some_of_map f (Some x) = refl

not_none : {A : Type 0} (o : Option A) → o ≡ None → ¬ (IsSome o)
not_none o e some = absurd (true≢false (sym some ∙ ap is_some e))

module _ (re : Re) (nfa : Nfa) (implements : Implements nfa re) (input : List ℕ) (bytes : All (λ b. b < 256) input) where
  pub stepwise_finds : is_some (first_match nfa input (length input) 0 (length input)) ≡ is_some (find re input 0)
  unfolding find
  stepwise_finds = ap is_some (first_between_cong _ _ 0 (length input) (λ i _ _. implements input i))

  forward_finds : is_some (end_from nfa input (length input) (entry nfa false) 0) ≡ is_some (find re input 0)
  unfolding find_in
  forward_finds =
      some_of_map _ (run nfa input (length input) nfa.unanchored 0)
      ∙ ap is_some (run_unanchored nfa input (length input) 0 bytes (omega arith) (omega arith))
      ∙ some_of_map _ (find_in nfa input (length input) 0)
      ∙ stepwise_finds

  start_finds : is_some (end_from nfa input (length input) (entry nfa true) 0) ≡ is_some (attempt input re accept 0)
  start_finds = some_of_map _ (run nfa input (length input) nfa.start 0) ∙ ap is_some (implements input 0)

  pub told_forward : (end : End) → IsEnd nfa input 0 (length input) false true (end_from nfa input (length input) (entry nfa false) 0) end →
      IfSome (told_by_end end) (λ found. IsTrue found ↔ IsSome (find re input 0))
  told_forward (End.At e) is = (λ t. sym forward_finds ∙ is.0, λ some. refl)
  told_forward End.NoMatch none = (λ t. absurd (true≢false (sym t)), λ some. absurd (not_none _ none (forward_finds ∙ some)))
  told_forward (End.Idle i) is = tt
  told_forward End.GaveUp is = tt

  pub told_at_start : IsAnchored true re → (end : End) →
      IsEnd nfa input 0 (length input) true true (end_from nfa input (length input) (entry nfa true) 0) end →
      IfSome (told_by_end end) (λ found. IsTrue found ↔ IsSome (find re input 0))
  told_at_start anchored (End.At e) is = (λ t. found_by_attempt re input bytes 0 (omega arith) (sym start_finds ∙ is.0), λ some. refl)
  told_at_start anchored End.NoMatch none = (
    λ t. absurd (true≢false (sym t)),
    λ some.
        let (j, matches) = begins_at_start re input bytes anchored some in
        absurd (not_none _ none (start_finds ∙ attempt_complete input re accept 0 j matches refl)),
  )
  told_at_start anchored (End.Idle i) is = tt
  told_at_start anchored End.GaveUp is = tt

  pub told_from_end : HasPaths nfa re → IsAnchored false re → (start : Start) →
      IsLeast (Accepts nfa input (length input) (length input) nfa.start) 0 (length input) start →
      IfSome (told_by_start start) (λ found. IsTrue found ↔ IsSome (find re input 0))
  told_from_end paths anchored (Start.At s) least = (
    λ t. ⊎_elim
        (λ none. absurd (∥∥₁_elim least.2 (λ x y. absurd x)
        (λ path. no_path_of_run_none nfa input (length input) (length input) nfa.start s (implements input s ∙ none) path)))
        (λ some. found_by_attempt re input bytes s least.1 (IsSome-of_value _ some.0 some.1))
        (option_cases (attempt input re accept s)),
    λ some. refl,
  )
  told_from_end paths anchored Start.NoMatch none = (
    λ t. absurd (true≢false (sym t)),
    λ some.
        let (i, j, within, matches) = the_first re input bytes some in
        let to : j ≡ length input = anchored.at input i j within matches in
        absurd (none i (omega arith) within (subst (λ e. Accepts nfa input (length input) e nfa.start i) to (paths input i j matches))),
  )
  told_from_end paths anchored Start.GaveUp least = tt

-- ---- where the pattern matches

-- the search finds something exactly where the pattern has a match
pub HasMatch-of_compiled : (pattern : List ℕ) (compiled : Compiled) (is : IsCompiledOf pattern compiled) (input : List ℕ) → IsUtf8 input →
    ((k : ℕ) → get_or input k 0 < 256) → IsSome (find (meaning is.tree) input 0) ↔ HasMatch pattern input
HasMatch-of_compiled pattern compiled is input whole bytes =
    let somewhere = found_somewhere (meaning is.tree) input (are_bytes input bytes) compiled.place is.place is.read.text whole in
    let has = HasMatch-of_tree pattern is.tree is.read input bytes in
    (λ found. has.1 (somewhere.0 found), λ h. somewhere.1 (has.0 h))

-- what is told of the search is told of the pattern
pub told_of_pattern : (compiled : Compiled) (input : List ℕ) → IsUtf8 input → ((k : ℕ) → get_or input k 0 < 256) → (told : Option Bool) →
    ((pattern : List ℕ) (is : IsCompiledOf pattern compiled) → IfSome told (λ found. IsTrue found ↔ IsSome (find (meaning is.tree) input 0))) →
    IfSome told (λ found. (pattern : List ℕ) → IsCompiledOf pattern compiled → IsTrue found ↔ HasMatch pattern input)
told_of_pattern compiled input whole bytes None tells = tt
told_of_pattern compiled input whole bytes (Some found) tells = λ pattern is.
    let has = HasMatch-of_compiled pattern compiled is input whole bytes in
    let some = tells pattern is in
    (λ t. has.0 (some.0 t), λ h. some.1 (has.1 h))
