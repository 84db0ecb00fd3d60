use Rattle.std.proofs.Common.{◌≡◌, map, take}
use Rattle.std.specs.Prelude.{filter}
use Rattle.filterset_offers.specs.Matched.{package_name}
use Rattle.filterset_offers.proofs.named.package_names.Given as goal

-- the names of the packages so far
abbrev pub invariant-loop-package : goal.invariant-loop-package
invariant-loop-package l =
    map (λ n. n.now) l.names.items ≡ map package_name (filter (λ p. p.in_workspace) (take l.package-index l.packages))
