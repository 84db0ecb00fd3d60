-- There are no more states than sets of places.
use Rattle.std.proofs.Common.{◌≡◌, ◌≢◌, take, ℕ, ◌+◌, ◌*◌, ◌^◌, ◌<◌, ◌≤◌, refl, sym, ◌∙◌, ap, subst, List, [], ◌∷◌, length, get_or, map, Bool, true, false, Option, string_bytes, arith}
use Rattle.std.specs.{List.All, List.AllPairs, List.Any, Str.IsUtf8, Str.chars}
use Rattle.std.proofs.{lemmas.Str.IsUtf8-string_bytes, Math.Dec.eqb, Math.Nat.pow-succ'}
use Rattle.std.proofs.lemmas.{Bool.Decides.Decides-eqb, List.ext_get_or, List.get_or-map, List.length-map}
use Rattle.std.proofs.lemmas.List.{Elements.All-map, Elements.All-weaker, Folds.Any-from_list_any}
use Rattle.std.proofs.lemmas.Map.{Made.IsDistinct-from_AllPairs, Steps.length-le_from_distinct_below}
use Rattle.filterset_texts.specs.{declared.part.Condition.Condition, declared.part.Part.Part, Parts.Fits}
use Rattle.filterset_texts.specs.{declared.states.State.State, Places.LeadsTo, Places.parts_before, Places.places_of}
use Rattle.filterset_texts.specs.Searching.{AreStates, ExceedsLimit, HasSets, LeadApart}
use Rattle.filterset_texts.proofs.Lists.{same_bool}

-- marks, as the digits of a number
code_of : List Bool → ℕ
code_of [] = 0
code_of (true ∷ marks) = 1 + 2 * code_of marks
code_of (false ∷ marks) = 2 * code_of marks

code_below : (marks : List Bool) → code_of marks < 2 ^ length marks
unfolding code_of
code_below [] = omega arith
code_below (true ∷ marks) = omega (arith, code_below marks, pow-succ' 2 (length marks))
code_below (false ∷ marks) = omega (arith, code_below marks, pow-succ' 2 (length marks))

code_same : (marks others : List Bool) → length marks ≡ length others → code_of marks ≡ code_of others → marks ≡ others
unfolding code_of
code_same [] [] long same = refl
code_same [] (b ∷ others) long same = absurd (omega (arith, long))
code_same (b ∷ marks) [] long same = absurd (omega (arith, long))
code_same (true ∷ marks) (true ∷ others) long same = ap (λ l. true ∷ l) (code_same marks others (omega (arith, long)) (omega (arith, same)))
code_same (true ∷ marks) (false ∷ others) long same = absurd (omega (arith, same))
code_same (false ∷ marks) (true ∷ others) long same = absurd (omega (arith, same))
code_same (false ∷ marks) (false ∷ others) long same = ap (λ l. false ∷ l) (code_same marks others (omega (arith, long)) (omega (arith, same)))

code_of_state : State → ℕ
code_of_state state = code_of state.marks.items

some_item : {X : Type 0} (xs : List X) (i : ℕ) → i < length xs → X
some_item [] i short = absurd (omega (arith, short))
some_item (x ∷ xs) i short = x

pairs_map : {X Y : Type 0} (f : X → Y) (R : Y → Y → Type 0) (xs : List X) → AllPairs (λ x y. R (f x) (f y)) xs → AllPairs R (map f xs)
pairs_map f R xs pairs i j d less short =
    let within : j < length xs = subst (λ n. j < n) (length-map xs f) short in
    let first : i < length xs = omega (arith, less, within) in
    let e = some_item xs i first in
    subst (λ x. R x (get_or (map f xs) j d)) (sym (get_or-map f xs i e d first))
    (subst (R (f (get_or xs i e))) (sym (get_or-map f xs j e d within)) (pairs i j e less within))

few : (states : List State) (n : ℕ) → All (λ (state : State). length state.marks.items ≡ n) states
    → AllPairs (λ (state other : State). state.marks.items ≢ other.marks.items) states → length states ≤ 2 ^ n
unfolding code_of_state
few states n long distinct =
    let codes : List ℕ = map code_of_state states in
    let unlike : AllPairs (λ (x y : ℕ). x ≢ y) codes =
    pairs_map code_of_state (λ (x y : ℕ). x ≢ y) states
    (λ i j d less short same. distinct i j d less short
    (code_same (get_or states i d).marks.items (get_or states j d).marks.items
    (long i d (let first : i < length states = omega (arith, less, short) in first) ∙ sym (long j d short)) same)) in
    let small : All (λ x. x < 2 ^ n) codes =
    All-map (λ x. x < 2 ^ n) code_of_state states
    (λ k d short. subst (λ m. code_of (get_or states k d).marks.items < 2 ^ m) (long k d short) (code_below (get_or states k d).marks.items)) in
    subst (λ k. k ≤ 2 ^ n) (length-map states code_of_state)
    (length-le_from_distinct_below codes (2 ^ n) (IsDistinct-from_AllPairs Decides-eqb codes unlike)
    (λ q is. let (k, x, short, at, found) = Any-from_list_any (eqb q) codes is in
    subst (λ y. y < 2 ^ n) (at ∙ sym ((Decides-eqb q x).0 found)) (small k x short)))

-- states are sets of places, so there are at most as many as sets
pub few_states : (row : List (Option Part)) (states : List State) → AreStates row states → length states ≤ 2 ^ length row
few_states row states are =
    few states (length row) (All-weaker (λ (s : State). LeadsTo row (chars (string_bytes s.text)) s.marks.items) (λ (s : State). length s.marks.items ≡ length row) (λ s leads. leads.same_length) states are.each) are.distinct

leads_once : (row : List (Option Part)) (text : List ℕ) (marks others : List Bool) → LeadsTo row text marks → LeadsTo row text others → marks ≡ others
leads_once row text marks others first second =
    ext_get_or false marks others (first.same_length ∙ sym second.same_length)
    (λ k short. let within : k < length row = subst (λ n. k < n) first.same_length short in
    same_bool (get_or marks k false) (get_or others k false) (Fits (parts_before [] (take (k + 1) row)) text) (first.each k within) (second.each k within))

bytes_of : State → List ℕ
bytes_of state = string_bytes state.text

texts_apart : (conditions : List Condition) (states : List State) → AreStates (places_of conditions) states → AllPairs (LeadApart conditions) (map bytes_of states)
unfolding bytes_of
texts_apart conditions states are =
    pairs_map bytes_of (LeadApart conditions) states
    (λ i j d less short marks first second.
    let row : List (Option Part) = places_of conditions in
    are.distinct i j d less short
    (leads_once row (chars (bytes_of (get_or states i d))) (get_or states i d).marks.items marks (are.each i d (omega (arith, less, short))) first
    ∙ sym (leads_once row (chars (bytes_of (get_or states j d))) (get_or states j d).marks.items marks (are.each j d short) second)))

-- the texts of states, no two of which lead to the same places
pub apart_states : (conditions : List Condition) (states : List State) (limit : ℕ) → AreStates (places_of conditions) states → limit < length states → ExceedsLimit conditions limit
unfolding bytes_of
apart_states conditions states limit are more = (
  map bytes_of states,
  subst (λ n. limit < n) (sym (length-map states bytes_of)) more,
  All-map IsUtf8 bytes_of states (λ k d short. IsUtf8-string_bytes (get_or states k d).text),
  texts_apart conditions states are,
)

-- the sets of places of states to which all texts lead
pub all_sets : (conditions : List Condition) (states : List State) (count : ℕ) → AreStates (places_of conditions) states → length states ≡ count
    → ((text : List ℕ) → IsUtf8 text → Any (λ (state : State). LeadsTo (places_of conditions) (chars text) state.marks.items) states) → HasSets conditions count
unfolding bytes_of
all_sets conditions states count are long reached = (
  map bytes_of states,
  length-map states bytes_of ∙ long,
  texts_apart conditions states are,
  λ text utf8.
      let (k, state, short, at, leads) = reached text utf8 in
      let own : LeadsTo (places_of conditions) (chars (string_bytes state.text)) state.marks.items =
      subst (λ (s : State). LeadsTo (places_of conditions) (chars (string_bytes s.text)) s.marks.items) at (are.each k state short) in (
        k,
        bytes_of state,
        subst (λ n. k < n) (sym (length-map states bytes_of)) short,
        get_or-map bytes_of states k state (bytes_of state) short ∙ ap bytes_of at,
        (state.marks.items, leads, own),
      ),
)
