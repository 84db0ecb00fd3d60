use Rattle.std.proofs.Common.{◌≡◌, map, take}
use Rattle.std.specs.Prelude.{option_and_then}
use Rattle.filterset_configuration.specs.Leads.{lead}
use Rattle.filterset_configuration.proofs.circles.twice.Given as goal

abbrev pub invariant-loop-to : goal.invariant-loop-to
invariant-loop-to l = l.further.items ≡ map (λ to. option_and_then (lead l.leads) to) (take l.to-index l.leads)
