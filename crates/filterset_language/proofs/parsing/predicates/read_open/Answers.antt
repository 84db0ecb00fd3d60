use Rattle.filterset_language.proofs.{Recovering.reported, FaultsStand.open_found}
use Rattle.filterset_language.proofs.parsing.predicates.read_open.Goals as goal

pub returns-in_ok-push-in-None-clause-stand : goal.returns-in_ok-push-in-None-clause-stand
returns-in_ok-push-in-None-clause-stand c =
    reported _ _ _ _ c.in_ok-push-in-None.ensures.items (rw c.here.ensures (open_found c.args.input _ c.args.name c.requires c.skip_blanks.ensures.value c.in-None.ensures.value))
