use Rattle.std.proofs.Common.{◌≡◌, ℕ, ◌^◌, ◌<◌, ◌≤◌, ◌≢◌, refl, string_bytes, sym, ◌∙◌, ap, subst, List, length, get_or, take, arith, Option}
use Rattle.std.specs.{Borrow.Bor, List.All, List.Any, Str.chars}
use Rattle.std.proofs.lemmas.{Bool.false≢true, List.get_or_default, List.take_all}
use Rattle.filterset_texts.specs.declared.searching.Found.TheVariants.{Nothing, Stopped}
use Rattle.filterset_texts.specs.declared.{letters.Letter.Letter, part.Part.Part, states.State.State}
use Rattle.filterset_texts.specs.{Letters.AreLetters, Parts.Meets, Parts.all_place_count}
use Rattle.filterset_texts.specs.Places.{BeginsAnew, LeadsTo, places_of, row_of}
use Rattle.filterset_texts.specs.Searching.{AreStates, ExceedsLimit, HasNext, IsRight}
use Rattle.filterset_texts.proofs.Ends.{begins_places, length-places_of}
use Rattle.filterset_texts.proofs.Exhaustion.{IsExplored, IsSearched, all_reached, explored_more, none_meets}
use Rattle.filterset_texts.proofs.Sets.{all_sets, apart_states, few_states}
use Rattle.filterset_texts.proofs.searching.find_text.Goals.{then-len-limit, else-len-limit}
use Rattle.filterset_texts.proofs.searching.find_text.Goals as goal

pub returns-then-index-len-clause-found : goal.returns-then-index-len-clause-found
returns-then-index-len-clause-found c =
    let row = row_of c.in_ok-places.places.items in
    let letters = c.in_ok-letters.letters.items in
    let states = c.loop-count.states.list.items in
    let searched = c.loop-count.invariant.searched in
    let are : AreLetters row letters = subst (λ (p : List (Option (Bor Part))). AreLetters (row_of p) letters) c.deref.ensures.value c.in_ok-letters.ensures in
    let whole : take c.loop-count.count states ≡ states = take_all c.loop-count.count states (omega (arith, c.if-index-len.true ∙ c.len.ensures ∙ c.loop-count.states.list.ok.0)) in
    none_meets row c.args.conditions.now letters states are
    (subst (All (IsExplored row c.args.conditions.now letters states)) whole searched.explored) searched.are.start

pub returns-then-index-len-clause-within_sets : goal.returns-then-index-len-clause-within_sets
returns-then-index-len-clause-within_sets c =
    let row = row_of c.in_ok-places.places.items in
    let bound = few_states row c.loop-count.states.list.items c.loop-count.invariant.searched.are in
    let size : length row ≡ all_place_count c.args.conditions.now = ap length c.in_ok-places.ensures ∙ length-places_of c.args.conditions.now in
    let most : length c.loop-count.states.list.items ≤ 2 ^ all_place_count c.args.conditions.now = subst (λ n. length c.loop-count.states.list.items ≤ 2 ^ n) size bound in
    omega (arith, most, c.loop-count.invariant.searched.within)

pub returns-then-are_met-clause-within_sets : goal.returns-then-are_met-clause-within_sets
returns-then-are_met-clause-within_sets c =
    let row = row_of c.in_ok-places.places.items in
    let bound = few_states row c.loop-count.states.list.items c.loop-count.invariant.searched.are in
    let size : length row ≡ all_place_count c.args.conditions.now = ap length c.in_ok-places.ensures ∙ length-places_of c.args.conditions.now in
    let most : length c.loop-count.states.list.items ≤ 2 ^ all_place_count c.args.conditions.now = subst (λ n. length c.loop-count.states.list.items ≤ 2 ^ n) size bound in
    let other : c.loop-count.count ≢ length c.loop-count.states.list.items = λ same. c.if-index-len.false (same ∙ sym (c.len.ensures ∙ c.loop-count.states.list.ok.0)) in
    omega (arith, most, c.loop-count.invariant.searched.within, other)

pub are_met-requires : goal.are_met-requires
are_met-requires c =
    let row = row_of c.in_ok-places.places.items in
    let states = c.loop-count.states.list.items in
    let count = c.loop-count.count in
    let here = c.index-state.result.now in
    let searched = c.loop-count.invariant.searched in
    let other : count ≢ length states = λ same. c.if-index-len.false (same ∙ sym (c.len.ensures ∙ c.loop-count.states.list.ok.0)) in
    let short : count < length states = omega (arith, other, searched.within) in
    let leads = subst (λ (s : State). LeadsTo row (chars (string_bytes s.text)) s.marks.items) (sym c.index-state.ensures) (searched.are.each count here short) in
    ap length c.deref-in-loop-count.ensures.value ∙ leads.same_length ∙ ap length c.in_ok-places.ensures ∙ length-places_of c.args.conditions.now

pub returns-then-are_met-clause-found : goal.returns-then-are_met-clause-found
returns-then-are_met-clause-found c =
    let conditions = c.args.conditions.now in
    let states = c.loop-count.states.list.items in
    let count = c.loop-count.count in
    let here = c.index-state.result.now in
    let text = chars (string_bytes here.text) in
    let searched = c.loop-count.invariant.searched in
    let other : count ≢ length states = λ same. c.if-index-len.false (same ∙ sym (c.len.ensures ∙ c.loop-count.states.list.ok.0)) in
    let short : count < length states = omega (arith, other, searched.within) in
    let led = subst (λ (s : State). LeadsTo (row_of c.in_ok-places.places.items) (chars (string_bytes s.text)) s.marks.items) (sym c.index-state.ensures) (searched.are.each count here short) in
    let leads = subst (λ (r : List (Option Part)). LeadsTo r text here.marks.items) c.in_ok-places.ensures led in
    let met : Meets text conditions = (c.if-are_met.ensures text (subst (LeadsTo (places_of conditions) text) (sym c.deref-in-loop-count.ensures.value) leads)).0 refl in
    subst (λ (bytes : List ℕ). Meets (chars bytes) conditions) (sym c.in_ok-text.ensures.cases) met

pub add_following-requires-clause-begins : goal.add_following-requires-clause-begins
add_following-requires-clause-begins c =
    subst BeginsAnew (sym (ap row_of c.deref-in-loop-count-2.ensures.value ∙ c.in_ok-places.ensures)) (begins_places c.args.conditions.now)

pub loop-count-preserved : goal.loop-count-preserved
loop-count-preserved c =
    let row = row_of c.in_ok-places.places.items in
    let conditions = c.args.conditions.now in
    let letters : List Letter = c.in_ok-letters.letters.items in
    let states : List State = c.loop-count.states.list.items in
    let new : List State = c.add_following.new.states.list.items in
    let count = c.loop-count.count in
    let other : count ≢ length states = λ same. c.if-index-len.false (same ∙ sym (c.len.ensures ∙ c.loop-count.states.list.ok.0)) in
    let searched : IsSearched row conditions letters states count = c.loop-count.invariant.searched in
    let short : count < length states = omega (arith, other, searched.within) in
    let rows : row_of c.deref-in-loop-count-2.result.now ≡ row = ap row_of c.deref-in-loop-count-2.ensures.value in
    let are : AreStates row new = subst (λ (r : List (Option Part)). AreStates r new) rows c.in_ok-add_following.ensures.states in
    let (more, grown) = c.in_ok-add_following.ensures.kept in
    let unmet : (state : State) (text : List ℕ) → LeadsTo (places_of conditions) text (get_or states count state).marks.items → Meets text conditions → ⊥ =
    λ state text leads meets.
    let here = c.index-state.result.now in
    let same : get_or states count state ≡ here = get_or_default states count state here short ∙ sym c.index-state.ensures in
    let own : LeadsTo (places_of conditions) text here.marks.items = subst (λ (s : State). LeadsTo (places_of conditions) text s.marks.items) same leads in
    false≢true ((c.if-are_met.ensures text (subst (LeadsTo (places_of conditions) text) (sym c.deref-in-loop-count.ensures.value) own)).1 meets) in
    let next : (state : State) → All (HasNext (row_of c.deref-in-loop-count-2.result.now) new (get_or states count state).marks.items) c.deref-in-loop-count-3.result.now = c.in_ok-add_following.ensures.next in
    record {
      searched = explored_more row conditions letters states new more count short grown are
          (λ state text leads. unmet state text (subst (λ (r : List (Option Part)). LeadsTo r text (get_or states count state).marks.items) c.in_ok-places.ensures leads))
          (λ state. subst (λ (r : List (Option Part)). All (HasNext r new (get_or states count state).marks.items) letters) rows
          (subst (All (HasNext (row_of c.deref-in-loop-count-2.result.now) new (get_or states count state).marks.items)) c.deref-in-loop-count-3.ensures.value (next state)))
          searched;
      seen = c.in_ok-add_following.ensures.seen;
    }

pub returns-clause-within_sets : goal.returns-clause-within_sets
returns-clause-within_sets c =
    let row = row_of c.in_ok-places.places.items in
    let bound = few_states row c.loop-count.states.list.items c.loop-count.invariant.searched.are in
    let size : length row ≡ all_place_count c.args.conditions.now = ap length c.in_ok-places.ensures ∙ length-places_of c.args.conditions.now in
    let most : length c.loop-count.states.list.items ≤ 2 ^ all_place_count c.args.conditions.now = subst (λ n. length c.loop-count.states.list.items ≤ 2 ^ n) size bound in
    omega (arith, most, c.loop-count.invariant.searched.within, c.loop-count-test.false)

pub returns-clause-found : goal.returns-clause-found
returns-clause-found c =
    let row = row_of c.in_ok-places.places.items in
    let conditions = c.args.conditions.now in
    let letters : List Letter = c.in_ok-letters.letters.items in
    let states : List State = c.loop-count.states.list.items in
    let count = c.loop-count.count in
    let searched : IsSearched row conditions letters states count = c.loop-count.invariant.searched in
    let size : length row ≡ all_place_count conditions = ap length c.in_ok-places.ensures ∙ length-places_of conditions in
    let most : length states ≤ 2 ^ all_place_count conditions = subst (λ n. length states ≤ 2 ^ n) size (few_states row states searched.are) in
    let are : AreLetters row letters = subst (λ (p : List (Option (Bor Part))). AreLetters (row_of p) letters) c.deref.ensures.value c.in_ok-letters.ensures in
    let len : c.len-2.result ≡ length states = c.len-2.ensures ∙ c.loop-count.states.list.ok.0 in
    elim c.if-len-limit.branch [
      | then-len-limit w ↦
          let whole : take count states ≡ states = take_all count states (omega (arith, len, w.if-len-limit.true, c.loop-count-test.false)) in
          subst (IsRight conditions c.args.limit) (sym w.found-is)
          (none_meets row conditions letters states are (subst (All (IsExplored row conditions letters states)) whole searched.explored) searched.are.start)
      | else-len-limit w ↦
          let other : length states ≢ c.args.limit = λ same. w.if-len-limit.false (len ∙ same) in
          let apart : ExceedsLimit conditions c.args.limit =
          apart_states conditions states c.args.limit (subst (λ (r : List (Option Part)). AreStates r states) c.in_ok-places.ensures searched.are)
          (omega (arith, searched.within, c.loop-count-test.false, other)) in
          subst (IsRight conditions c.args.limit) (sym w.found-is) (omega (arith, most, searched.within, c.loop-count-test.false, other), apart)
    ]

pub returns-then-index-len-clause-all : goal.returns-then-index-len-clause-all
returns-then-index-len-clause-all c = λ nothing.
    let row = row_of c.in_ok-places.places.items in
    let conditions = c.args.conditions.now in
    let letters : List Letter = c.in_ok-letters.letters.items in
    let states : List State = c.loop-count.states.list.items in
    let count = c.loop-count.count in
    let searched : IsSearched row conditions letters states count = c.loop-count.invariant.searched in
    let are : AreLetters row letters = subst (λ (p : List (Option (Bor Part))). AreLetters (row_of p) letters) c.deref.ensures.value c.in_ok-letters.ensures in
    let len : count ≡ length states = c.if-index-len.true ∙ c.len.ensures ∙ c.loop-count.states.list.ok.0 in
    let explored = subst (All (IsExplored row conditions letters states)) (take_all count states (omega (arith, len))) searched.explored in
    all_sets conditions states count (subst (λ (r : List (Option Part)). AreStates r states) c.in_ok-places.ensures searched.are) (sym len)
    (λ text utf8. subst (λ (r : List (Option Part)). Any (λ (s : State). LeadsTo r (chars text) s.marks.items) states) c.in_ok-places.ensures
    (all_reached row conditions letters states are explored searched.are.start text utf8))

pub returns-clause-all : goal.returns-clause-all
returns-clause-all c = λ nothing.
    let row = row_of c.in_ok-places.places.items in
    let conditions = c.args.conditions.now in
    let letters : List Letter = c.in_ok-letters.letters.items in
    let states : List State = c.loop-count.states.list.items in
    let count = c.loop-count.count in
    let searched : IsSearched row conditions letters states count = c.loop-count.invariant.searched in
    let are : AreLetters row letters = subst (λ (p : List (Option (Bor Part))). AreLetters (row_of p) letters) c.deref.ensures.value c.in_ok-letters.ensures in
    let at_limit : length states ≡ c.args.limit = elim c.if-len-limit.branch [
      | then-len-limit w ↦ sym (c.len-2.ensures ∙ c.loop-count.states.list.ok.0) ∙ w.if-len-limit.true
      | else-len-limit w ↦ absurd (let clash : Stopped ≡ Nothing = sym w.found-is ∙ nothing in cc)
    ] in
    let explored = subst (All (IsExplored row conditions letters states)) (take_all count states (omega (arith, at_limit, c.loop-count-test.false))) searched.explored in
    all_sets conditions states c.args.limit (subst (λ (r : List (Option Part)). AreStates r states) c.in_ok-places.ensures searched.are) at_limit
    (λ text utf8. subst (λ (r : List (Option Part)). Any (λ (s : State). LeadsTo r (chars text) s.marks.items) states) c.in_ok-places.ensures
    (all_reached row conditions letters states are explored searched.are.start text utf8))
