use Rattle.std.proofs.Common.{◌≡◌, ◌+◌, ◌++◌, drop, map}
use Rattle.serde_json.specs.View.{view}
use Rattle.filterset_verdicts.specs.VerdictJson.{number_item, picked_numbers}
use Rattle.filterset_verdicts.proofs.json.pick_values.Given as goal

-- the values, with those of the others, are all values
abbrev pub invariant-loop-i : goal.invariant-loop-i
invariant-loop-i l =
    map view l.values.items ++ map number_item (picked_numbers (l.i + 1) (drop l.i l.picks)) ≡ map number_item (picked_numbers 1 l.picks)
