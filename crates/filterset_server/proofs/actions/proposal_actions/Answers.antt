use Rattle.std.proofs.{Common.Some, Common.map, Common.string_bytes, Common.subst, lemmas.Result.IfOk-weaker}
use Rattle.serde_json.specs.View.{view}
use Rattle.filterset_display.specs.Positions.{Text}
use Rattle.filterset_server.specs.{Actions.NewActions, Subjects.proposal_row, Subjects.target_row}
use Rattle.filterset_server.proofs.actions.proposal_actions.Goals as goal

pub returns-in-Some : goal.returns-in-Some
returns-in-Some c =
    let mending = rw c.in-Some.is at c.in_ok-new.ensures in
    IfOk-weaker c.new_actions.result _ _
    (λ values are.
    let For : Text → Type 0 = λ new. NewActions (target_row c.args.target.now) (proposal_row c.args.proposal.now) new (map view values.items) in
    (Some (string_bytes c.in-Some.new), mending, subst For c.as_str.ensures.value are))
    c.new_actions.ensures
