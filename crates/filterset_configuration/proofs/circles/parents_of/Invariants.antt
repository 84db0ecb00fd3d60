use Rattle.std.proofs.Common.{◌≡◌, map, take}
use Rattle.std.specs.Prelude.{option_and_then, option_copied}
use Rattle.filterset_configuration.specs.Circles.{position_of}
use Rattle.filterset_configuration.proofs.circles.parents_of.Given as goal

abbrev pub invariant-loop-link : goal.invariant-loop-link
invariant-loop-link l = l.parents.items ≡ map (λ k. option_and_then (position_of l.positions) (option_copied k.fallback)) (take l.link-index l.links)
