use Rattle.std.proofs.Common.{map, take}
use Rattle.filterset_configuration.specs.Circles.{IsIndex}
use Rattle.filterset_configuration.proofs.circles.positions_of.Given as goal

-- the names so far have their positions
abbrev pub invariant-loop-at : goal.invariant-loop-at
invariant-loop-at l = IsIndex (map (λ k. k.name.now) (take l.at l.links)) l.positions
