use Rattle.std.proofs.Common.{Some, rules}
use Rattle.filterset_display.proofs.json.spot_of.Goals as goal

pub returns-in-Some : goal.returns-in-Some
returns-in-Some c =
    (Some c.location-location.result, (rw c.in-Some.is c.location-location.ensures), search rules, search rules, search rules, search rules)
