-- States that are added to others, and their texts.
use Rattle.std.proofs.Common.{◌≡◌, ◌≢◌, ℕ, ◌+◌, ◌<◌, refl, sym, ◌∙◌, ap, subst, List, [], ◌∷◌, ◌++◌, append_assoc, length, get_or, take, Option, string_bytes, arith}
use Rattle.std.specs.{Char.IsScalar, Str.IsUtf8, Str.chars, List.All, List.Any}
use Rattle.std.proofs.{Math.Utf8.encode, lemmas.Bool.and_from}
use Rattle.std.proofs.lemmas.List.{append-nil, get_or_append_left, get_or_default}
use Rattle.std.proofs.lemmas.List.Elements.{All-more, All-nil, All-push, All-weaker}
use Rattle.std.proofs.lemmas.List.Quantifiers.{Any-push, all_pairs_push}
use Rattle.std.proofs.lemmas.Str.{chars-append, chars-encodes, chars-nil}
use Rattle.filterset_texts.specs.declared.{letters.Letter.Letter, part.Part.Part, states.State.State}
use Rattle.filterset_texts.specs.{Places.LeadsTo, Searching.AreStates, Searching.HasNext, Searching.LeadsOn}
use Rattle.filterset_texts.proofs.Lists.{any_left}

pub chars_longer : (old new : List ℕ) (c : ℕ) → IsUtf8 old → IsScalar c → new ≡ old ++ encode c → chars new ≡ chars old ++ c ∷ []
chars_longer old new c utf8 scalar is =
    let one : chars (encode c ++ []) ≡ c ∷ [] = chars-encodes (c ∷ []) (and_from _ _ scalar refl) in
    ap chars is ∙ chars-append old (encode c) utf8 ∙ ap (λ t. chars old ++ chars t) (sym (append-nil (encode c))) ∙ ap (λ t. chars old ++ t) one

pub first_state : (row : List (Option Part)) (state : State) → LeadsTo row [] state.marks.items → string_bytes state.text ≡ [] → AreStates row (state ∷ [])
first_state row state leads empty = record {
  each = All-push (λ (s : State). LeadsTo row (chars (string_bytes s.text)) s.marks.items) [] state (All-nil (λ (s : State). LeadsTo row (chars (string_bytes s.text)) s.marks.items))
      (subst (λ (t : List ℕ). LeadsTo row t state.marks.items) (sym (ap chars empty ∙ chars-nil)) leads);
  start = Any-push (λ (s : State). LeadsTo row [] s.marks.items) [] state leads;
  distinct = λ i j d less short. absurd (omega (arith, less, short));
}

pub more_states : (row : List (Option Part)) (old : List State) (state : State) → AreStates row old → LeadsTo row (chars (string_bytes state.text)) state.marks.items
    → (Any (λ (s : State). s.marks.items ≡ state.marks.items) old → ⊥) → AreStates row (old ++ state ∷ [])
more_states row old state are leads new = record {
  each = All-push (λ (s : State). LeadsTo row (chars (string_bytes s.text)) s.marks.items) old state are.each leads;
  start = any_left (λ (s : State). LeadsTo row [] s.marks.items) old (state ∷ []) are.start;
  distinct = all_pairs_push (λ (s t : State). s.marks.items ≢ t.marks.items) old state are.distinct
      (λ k d short same. new (k, get_or old k d, short, get_or_default old k (get_or old k d) d short, same));
}

-- the states after the first i letters from the one at the index
pub record AddsFollowing (row : List (Option Part)) (letters : List Letter) (old : List State) (index i : ℕ) (states : List State) : Type 0 where
  pub are : AreStates row states
  pub kept : (more : List State) × (states ≡ old ++ more)
  pub next : (state : State) → All (HasNext row states (get_or old index state).marks.items) (take i letters)

pub following_more : (row : List (Option Part)) (letters : List Letter) (old : List State) (index i : ℕ) (letter : Letter) (states new more : List State)
    → i < length letters → letter ≡ get_or letters i letter → index < length old → new ≡ states ++ more → AreStates row new
    → ((state : State) → HasNext row new (get_or states index state).marks.items letter)
    → AddsFollowing row letters old index i states → AddsFollowing row letters old index (i + 1) new
following_more row letters old index i letter states new more short is within pushed are here before = record {
  are = are;
  kept = let (first, was) = before.kept in (first ++ more, pushed ∙ ap (λ l. l ++ more) was ∙ append_assoc old first more);
  next = λ state.
      let (first, was) = before.kept in
      let same : get_or states index state ≡ get_or old index state = ap (λ l. get_or l index state) was ∙ get_or_append_left old first state index within in
      All-more (HasNext row new (get_or old index state).marks.items) letters i letter short
      (All-weaker (HasNext row states (get_or old index state).marks.items) (HasNext row new (get_or old index state).marks.items)
      (λ l any. subst (λ (all : List State). HasNext row all (get_or old index state).marks.items l) (sym pushed)
      (any_left (λ (s : State). LeadsOn row l (get_or old index state).marks.items s.marks.items) states more any))
      (take i letters) (before.next state))
      (subst (HasNext row new (get_or old index state).marks.items) is
      (subst (λ (s : State). HasNext row new s.marks.items letter) same (here state)));
}
