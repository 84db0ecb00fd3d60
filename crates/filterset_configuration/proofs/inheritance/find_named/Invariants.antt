use Rattle.std.proofs.Common.{◌≡◌, drop}
use Rattle.filterset_configuration.specs.Lineages.{first_named}
use Rattle.filterset_configuration.proofs.inheritance.find_named.Given as goal

abbrev pub invariant-loop-at : goal.invariant-loop-at
invariant-loop-at l = first_named (drop l.at l.profiles) l.name ≡ first_named l.profiles l.name
