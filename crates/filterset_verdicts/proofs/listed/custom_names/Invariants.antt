use Rattle.std.proofs.Common.{◌≡◌, map, string_bytes}
use Rattle.std.specs.Map.Iter.{deref}
use Rattle.filterset_verdicts.proofs.listed.custom_names.Given as goal

-- the names so far
abbrev pub invariant-loop-name : goal.invariant-loop-name
invariant-loop-name l = map (λ g. g.now) l.names.items ≡ map (λ s. string_bytes s) (map deref l.yielded)
