use Rattle.std.proofs.Common.{◌≡◌, map, take}
use Rattle.filterset_offers.specs.Candidates.{naming, row_of}
use Rattle.filterset_offers.proofs.names.candidates_of.Given as goal

-- the candidates of the names so far
abbrev pub invariant-loop-name : goal.invariant-loop-name
invariant-loop-name l = map row_of l.made.items ≡ map (naming l.named) (map (λ n. n.now) (take l.name-index l.names))
