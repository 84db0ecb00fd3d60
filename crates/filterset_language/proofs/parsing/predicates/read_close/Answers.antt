use Rattle.filterset_language.proofs.{Recovering.reported, FaultsStand.close_found}
use Rattle.filterset_language.proofs.parsing.predicates.read_close.Goals as goal

pub returns-in_ok-push-in-None-clause-stand : goal.returns-in_ok-push-in-None-clause-stand
returns-in_ok-push-in-None-clause-stand c =
    reported _ _ _ _ c.in_ok-push-in-None.ensures.items (rw c.here.ensures (close_found c.args.input _ c.skip_blanks.ensures.value c.in-None.ensures.value))
