use Rattle.std.proofs.Common.{map, take}
use Rattle.std.specs.List.{AllZip}
use Rattle.toml.specs.View.{view}
use Rattle.filterset_configuration.specs.Profiles.{IsOverride}
use Rattle.filterset_configuration.proofs.overrides.read_overrides.Given as goal

-- the overrides so far
abbrev pub invariant-loop-at : goal.invariant-loop-at
invariant-loop-at l = AllZip (IsOverride (view l.file)) (map view (take l.at l.items)) l.overrides.items
