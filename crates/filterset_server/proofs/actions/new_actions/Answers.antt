use Rattle.std.proofs.Common.{None, Some, refl}
use Rattle.serde_json.specs.View.{view}
use Rattle.filterset_server.proofs.actions.new_actions.Goals as goal

pub returns-in_ok-push-in-Some : goal.returns-in_ok-push-in-Some
returns-in_ok-push-in-Some c =
    (Some (view c.in-Some.action), rw c.in-Some.is at c.in_ok-action.ensures, rw (c.in_ok-push-in-Some.ensures.items, c.new-values.ensures.items) refl)

pub returns-in-None : goal.returns-in-None
returns-in-None c = (None, rw c.in-None.is at c.in_ok-action.ensures, rw c.new-values.ensures.items refl)
