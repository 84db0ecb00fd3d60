-- If no letter leads out of the states, every text leads to one of them.
use Rattle.std.proofs.Common.{◌≡◌, ℕ, ◌+◌, ◌<◌, ◌≤◌, sym, ◌∙◌, ap, subst, List, [], ◌∷◌, ◌++◌, append_assoc, length, get_or, take, true, Option, ⊎_elim, inl, inr, arith}
use Rattle.std.specs.{Char.InScalarRange, List.All, List.Any, Str.IsUtf8, Str.chars}
use Rattle.std.proofs.{Math.Utf8.scalar, Math.Utf8.scalar_cases, Math.Utf8.scalars, lemmas.Bool.and_parts}
use Rattle.std.proofs.lemmas.List.{append-nil, get_or_append_left, length-append, take-append-le}
use Rattle.std.proofs.lemmas.{List.Elements.All-more, List.Elements.All-weaker, Str.scalars-chars}
use Rattle.filterset_texts.specs.declared.{letters.Letter.Letter, part.Condition.Condition, part.Part.Part}
use Rattle.filterset_texts.specs.{declared.states.State.State, Letters.AreLetters, Parts.Meets, Places.LeadsTo}
use Rattle.filterset_texts.specs.Searching.{AreStates, HasNext, LeadsOn}
use Rattle.filterset_texts.proofs.Lists.{any_left}

-- no text that leads to the state's places meets the conditions, and letters lead on to states
pub record IsExplored (row : List (Option Part)) (conditions : List Condition) (letters : List Letter) (states : List State) (state : State) : Type 0 where
  pub unmet : (text : List ℕ) → LeadsTo row text state.marks.items → ¬ Meets text conditions
  pub next : All (HasNext row states state.marks.items) letters

-- the states, and the first of them that are explored
pub record IsSearched (row : List (Option Part)) (conditions : List Condition) (letters : List Letter) (states : List State) (count : ℕ) : Type 0 where
  pub are : AreStates row states
  pub within : count ≤ length states
  pub explored : All (IsExplored row conditions letters states) (take count states)

in_scalar_range : (c : ℕ) → scalar c ≡ true → InScalarRange c
in_scalar_range c is = ⊎_elim (λ low. inl low) (λ high. inr (high.0, (let b : c ≤ 0x10_FFFF = omega (arith, high.1) in b))) (scalar_cases c is)

module _ (row : List (Option Part)) (conditions : List Condition) (letters : List Letter) (states : List State)
    (are : AreLetters row letters) (explored : All (IsExplored row conditions letters states) states) where
  abbrev pub IsReached : List ℕ → Type 0
  IsReached text = Any (λ (state : State). LeadsTo row text state.marks.items) states

  reach_next : (text : List ℕ) (c : ℕ) → scalar c ≡ true → IsReached text → IsReached (text ++ c ∷ [])
  reach_next text c is (k, state, short, at, leads) =
      let (i, letter, within, here, admitted) = are.all c (in_scalar_range c is) in
      let own : IsExplored row conditions letters states state = subst (IsExplored row conditions letters states) at (explored k state short) in
      let (j, next, below, there, on) = subst (HasNext row states state.marks.items) here (own.next i letter within) in
      (j, next, below, there, on text c leads admitted)

  reach : (front behind : List ℕ) → scalars behind ≡ true → IsReached front → IsReached (front ++ behind)
  reach front [] are_scalars reached = subst IsReached (sym (append-nil front)) reached
  reach front (c ∷ behind) are_scalars reached =
      let parts = and_parts (scalar c) (scalars behind) are_scalars in
      subst IsReached (append_assoc front (c ∷ []) behind) (reach (front ++ c ∷ []) behind parts.1 (reach_next front c parts.0 reached))

  pub all_reached : IsReached [] → (text : List ℕ) → IsUtf8 text → IsReached (chars text)
  all_reached start text utf8 = reach [] (chars text) (scalars-chars text utf8) start

  pub none_meets : IsReached [] → (text : List ℕ) → IsUtf8 text → ¬ Meets (chars text) conditions
  none_meets start text utf8 meets =
      let (k, state, short, at, leads) = all_reached start text utf8 in
      let own : IsExplored row conditions letters states state = subst (IsExplored row conditions letters states) at (explored k state short) in
      own.unmet (chars text) leads meets

-- one more state is explored
pub explored_more : (row : List (Option Part)) (conditions : List Condition) (letters : List Letter) (states new more : List State) (count : ℕ)
    → count < length states → new ≡ states ++ more → AreStates row new
    → ((other : State) (text : List ℕ) → LeadsTo row text (get_or states count other).marks.items → ¬ Meets text conditions)
    → ((other : State) → All (HasNext row new (get_or states count other).marks.items) letters)
    → IsSearched row conditions letters states count → IsSearched row conditions letters new (count + 1)
explored_more row conditions letters states new more count short grown are unmet next searched =
    let (k, some, short2, is, leads) = are.start in
    let same : get_or new count some ≡ get_or states count some = ap (λ l. get_or l count some) grown ∙ get_or_append_left states more some count short in
    let within : count < length new = omega (arith, ap length grown, length-append states more, short) in
    let first : take count new ≡ take count states = ap (take count) grown ∙ take-append-le count states more (let l : count ≤ length states = omega (arith, short) in l) in
    record {
      are = are;
      within = omega (arith, within);
      explored = All-more (IsExplored row conditions letters new) new count some within
          (subst (All (IsExplored row conditions letters new)) (sym first)
          (All-weaker (IsExplored row conditions letters states) (IsExplored row conditions letters new)
          (λ s was. record {
            unmet = was.unmet;
            next = All-weaker (HasNext row states s.marks.items) (HasNext row new s.marks.items)
                (λ letter has. subst (λ (l : List State). HasNext row l s.marks.items letter) (sym grown)
                (any_left (λ (t : State). LeadsOn row letter s.marks.items t.marks.items) states more has)) letters was.next;
          }) (take count states) searched.explored))
          (subst (IsExplored row conditions letters new) (sym same) (record { unmet = unmet some; next = next some }));
    }
