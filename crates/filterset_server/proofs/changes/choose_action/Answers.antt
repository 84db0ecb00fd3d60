use Rattle.std.proofs.{Common.None, Common.Some, Common.refl, lemmas.Result.IfOk-weaker}
use Rattle.serde_json.specs.View.{view}
use Rattle.filterset_server.proofs.changes.choose_action.Goals as goal

pub returns-in-Some : goal.returns-in-Some
returns-in-Some c = (Some (view c.in-Some.action), rw c.in-Some.is at c.in_ok-action.ensures, refl)

pub returns-in-None : goal.returns-in-None
returns-in-None c =
    let tried = rw c.in-None.is at c.in_ok-action.ensures in
    IfOk-weaker c.try_action-in-None.result _ _ (λ o is. (None, tried, is)) c.try_action-in-None.ensures
