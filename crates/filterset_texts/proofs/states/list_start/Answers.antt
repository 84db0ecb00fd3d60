use Rattle.std.proofs.Common.{◌≡◌, sym, ◌∙◌, ap, subst, List, [], ◌∷◌, ◌++◌}
use Rattle.filterset_texts.specs.{declared.states.State.State, Places.row_of, Searching.AreStates}
use Rattle.filterset_texts.proofs.Growth.{first_state}
use Rattle.filterset_texts.proofs.states.list_start.Goals as goal

pub returns-clause-states : goal.returns-clause-states
returns-clause-states c =
    let state : State = record { text = c.new-text.result; marks = c.in_ok-marks.marks } in
    let are : c.add_state.new.states.list.items ≡ state ∷ [] = c.in_ok-add_state.ensures.list ∙ ap (λ (l : List State). l ++ state ∷ []) c.new.ensures.items in
    subst (AreStates (row_of c.args.places.now)) (sym are) (first_state (row_of c.args.places.now) state c.in_ok-marks.ensures c.new-text.ensures.bytes)
