use Rattle.std.proofs.Common.{map, take}
use Rattle.filterset_offers.specs.Names.{IsGathered}
use Rattle.filterset_offers.proofs.names.gather.Given as goal

-- what is gathered of the names so far
abbrev pub invariant-loop-name : goal.invariant-loop-name
invariant-loop-name l = IsGathered (map (λ n. n.now) (take l.name-index l.names)) l.typed (map (λ n. n.now) l.found.items)
