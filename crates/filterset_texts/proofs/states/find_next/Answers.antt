use Rattle.std.proofs.Common.{◌≡◌, ℕ, sym, ◌∙◌, subst, List, [], ◌∷◌, ◌++◌, get_or, string_bytes}
use Rattle.std.specs.Str.{chars}
use Rattle.std.proofs.lemmas.{Bool.false≢true, List.get_or_default}
use Rattle.filterset_texts.specs.{declared.states.State.State, Places.IsAdmittedAt, Places.LeadsTo, Places.row_of}
use Rattle.filterset_texts.specs.Searching.{HasNext, LeadsOn}
use Rattle.filterset_texts.proofs.{Growth.more_states, Lists.any_weaker, Remembering.is_seen, Remembering.was_seen}
use Rattle.filterset_texts.proofs.states.find_next.Goals as goal

pub returns-clause-states : goal.returns-clause-states
returns-clause-states c =
    let row = row_of c.args.places.now in
    let states = c.args.states.now in
    let state = c.index-states-index.result in
    let marks = c.in_ok-marks.marks in
    let character = c.args.letter.now.character in
    let next : State = record { text = c.in_ok-text.text; marks = marks } in
    let leads : LeadsTo row (chars (string_bytes state.text)) state.marks.items =
    subst (λ (s : State). LeadsTo row (chars (string_bytes s.text)) s.marks.items) (sym c.index-states-index.is) (c.requires.states.each c.args.index state c.requires.index) in
    let on : LeadsTo row (chars (string_bytes state.text) ++ character ∷ []) marks.items =
    c.in_ok-marks.ensures (chars (string_bytes state.text)) character (subst (LeadsTo row (chars (string_bytes state.text))) (sym c.deref.ensures.value) leads)
    (subst (IsAdmittedAt row character) (sym c.deref-2.ensures.value) c.requires.letter) in
    more_states row states next c.requires.states (subst (λ (t : List ℕ). LeadsTo row t marks.items) (sym c.in_ok-text.ensures) on)
    (λ any. false≢true (c.if-contains.ensures ∙ is_seen states c.args.seen.now marks c.requires.seen any))

pub returns-clause-next : goal.returns-clause-next
returns-clause-next c = λ other.
    let row = row_of c.args.places.now in
    let states = c.args.states.now in
    let state = c.index-states-index.result in
    let marks = c.in_ok-marks.marks in
    let same : get_or states c.args.index other ≡ state = get_or_default states c.args.index other state c.requires.index ∙ sym c.index-states-index.is in
    let on : LeadsOn row c.args.letter.now state.marks.items marks.items = λ text ch leads admits.
    c.in_ok-marks.ensures text ch (subst (LeadsTo row text) (sym c.deref.ensures.value) leads) (subst (IsAdmittedAt row ch) (sym c.deref-2.ensures.value) admits) in
    subst (λ (s : State). LeadsOn row c.args.letter.now s.marks.items marks.items) (sym same) on

pub returns-then-contains-clause-known : goal.returns-then-contains-clause-known
returns-then-contains-clause-known c = λ other.
    let row = row_of c.args.places.now in
    let states = c.args.states.now in
    let state = c.index-states-index.result in
    let marks = c.in_ok-marks.marks in
    let on : LeadsOn row c.args.letter.now state.marks.items marks.items = λ text ch leads admits.
    c.in_ok-marks.ensures text ch (subst (LeadsTo row text) (sym c.deref.ensures.value) leads) (subst (IsAdmittedAt row ch) (sym c.deref-2.ensures.value) admits) in
    subst (λ (s : State). HasNext row states s.marks.items c.args.letter.now) (sym (get_or_default states c.args.index other state c.requires.index ∙ sym c.index-states-index.is))
    (any_weaker (λ (s : State). s.marks.items ≡ marks.items) (λ (s : State). LeadsOn row c.args.letter.now state.marks.items s.marks.items) states
    (λ s like. subst (LeadsOn row c.args.letter.now state.marks.items) (sym like) on) (was_seen states c.args.seen.now marks c.requires.seen (sym c.if-contains.ensures)))
