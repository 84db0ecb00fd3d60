use Rattle.std.proofs.Common.{◌∙◌, map, subst, sym}
use Rattle.std.proofs.lemmas.Result.{IfOk-weaker}
use Rattle.serde_json.specs.View.{view}
use Rattle.filterset_server.specs.{Actions.ProposalActions, Subjects.ProposalRow, Subjects.target_row}
use Rattle.filterset_server.proofs.actions.rewrite_actions.Goals as goal

pub returns : goal.returns
returns c =
    IfOk-weaker c.proposal_actions.result _ _
    (λ values are.
    let For : ProposalRow → Type 0 = λ p. ProposalActions (target_row c.args.target.now) p (map view values.items) in
    rw (sym c.is_same.ensures ∙ c.if-is_same.false) (subst For c.in_ok-proposal.ensures are))
    c.proposal_actions.ensures
