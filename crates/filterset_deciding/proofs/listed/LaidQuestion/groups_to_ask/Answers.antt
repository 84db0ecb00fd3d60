use Rattle.std.proofs.Common.{◌∙◌, sym}
use Rattle.filterset_deciding.proofs.Asking.{met_in_first}
use Rattle.filterset_deciding.proofs.listed.LaidQuestion.groups_to_ask.Goals as goal

pub returns-else-asks_group-clause-enough : goal.returns-else-asks_group-clause-enough
returns-else-asks_group-clause-enough c = λ query met.
    met_in_first c.args.self.now query c.args.groups.now (sym c.asks_group.ensures ∙ c.if-asks_group.false) met
