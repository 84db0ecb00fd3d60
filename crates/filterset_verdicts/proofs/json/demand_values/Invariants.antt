use Rattle.std.proofs.Common.{◌≡◌, map, take}
use Rattle.serde_json.specs.View.{view}
use Rattle.filterset_verdicts.specs.VerdictJson.{demand_item}
use Rattle.filterset_verdicts.proofs.json.demand_values.Given as goal

-- the values of the demands so far
abbrev pub invariant-loop-demand : goal.invariant-loop-demand
invariant-loop-demand l = map view l.values.items ≡ map (demand_item l.field) (take l.demand-index l.demands)
