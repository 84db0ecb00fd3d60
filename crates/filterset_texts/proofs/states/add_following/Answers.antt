use Rattle.std.proofs.Common.{◌≡◌, sym, ◌∙◌, ap, subst, List, Option, [], ◌∷◌, ◌++◌, get_or}
use Rattle.std.specs.{Prelude.IfNone, Prelude.IfSome, List.All}
use Rattle.std.proofs.lemmas.List.{append-nil, take_all, Quantifiers.Any-push}
use Rattle.filterset_texts.specs.{declared.states.State.State, declared.states.States.States, Places.row_of}
use Rattle.filterset_texts.specs.Searching.{AreSeen, AreStates, HasNext, LeadsOn}
use Rattle.filterset_texts.proofs.Growth.{following_more}
use Rattle.filterset_texts.proofs.states.add_following.Goals.{in-Some+in_ok-add_state, in_default}
use Rattle.filterset_texts.proofs.states.add_following.Goals as goal

pub loop-letter-preserved : goal.loop-letter-preserved
loop-letter-preserved c =
    let row = row_of c.args.places.now in
    let letter = c.letter-item.result in
    let states = c.loop-letter.states.list.items in
    let index = c.args.index in
    let before = c.loop-letter.invariant.added in
    let step = following_more row c.args.letters.now c.args.states.now.list.items index c.loop-letter.letter-index letter states in
    elim c.match-found.branch [
      | in-Some+in_ok-add_state w ↦
          let next = w.in-Some.next in
          let new : c.match-found.states.list.items ≡ states ++ next ∷ [] = ap (λ (v : States). v.list.items) w.states-is ∙ w.in_ok-add_state.ensures.list in
          let are : AreStates row (c.deref.result.now ++ next ∷ []) =
          subst (λ (o : Option State). IfSome o (λ s. AreStates row (c.deref.result.now ++ s ∷ []))) w.in-Some.is c.in_ok-found.ensures.states in
          let on : (state : State) → LeadsOn row letter (get_or c.deref.result.now index state).marks.items next.marks.items =
          subst (λ (o : Option State). IfSome o (λ s. (state : State) → LeadsOn row letter (get_or c.deref.result.now index state).marks.items s.marks.items)) w.in-Some.is c.in_ok-found.ensures.next in
          record {
            added = step c.match-found.states.list.items (next ∷ []) c.loop-letter-test.true c.letter-item.is c.requires.index new
                (subst (AreStates row) (ap (λ (l : List State). l ++ next ∷ []) c.deref.ensures.value ∙ sym new) are)
                (λ state. subst (λ (l : List State). HasNext row l (get_or states index state).marks.items letter) (sym new)
                (Any-push (λ (s : State). LeadsOn row letter (get_or states index state).marks.items s.marks.items) states next
                (subst (λ (l : List State). LeadsOn row letter (get_or l index state).marks.items next.marks.items) c.deref.ensures.value (on state))))
                before;
            seen = subst (λ (v : States). AreSeen v.list.items v.seen) (sym w.states-is) w.in_ok-add_state.ensures.seen;
          }
      | in_default w ↦
          let same : c.match-found.states.list.items ≡ states = ap (λ (v : States). v.list.items) w.states-is in
          let known : (state : State) → HasNext row c.deref.result.now (get_or c.deref.result.now index state).marks.items letter =
          subst (λ (o : Option State). IfNone o ((state : State) → HasNext row c.deref.result.now (get_or c.deref.result.now index state).marks.items letter)) w.in_default.is c.in_ok-found.ensures.known in
          record {
            added = step c.match-found.states.list.items [] c.loop-letter-test.true c.letter-item.is c.requires.index (same ∙ sym (append-nil states))
                (subst (AreStates row) (sym same) before.are)
                (λ state. subst (λ (l : List State). HasNext row l (get_or states index state).marks.items letter) (sym same)
                (subst (λ (l : List State). HasNext row l (get_or l index state).marks.items letter) c.deref.ensures.value (known state)))
                before;
            seen = subst (λ (v : States). AreSeen v.list.items v.seen) (sym w.states-is) c.loop-letter.invariant.seen;
          }
    ]

pub returns-clause-next : goal.returns-clause-next
returns-clause-next c = λ state.
    subst (All (HasNext (row_of c.args.places.now) c.loop-letter.states.list.items (get_or c.args.states.now.list.items c.args.index state).marks.items))
    (take_all c.loop-letter.letter-index c.args.letters.now c.loop-letter-test.false) (c.loop-letter.invariant.added.next state)
