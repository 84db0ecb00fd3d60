use Rattle.std.proofs.Common.{take}
use Rattle.std.specs.List.{AllByRecursion}
use Rattle.filterset_deciding.specs.PackageSets.{IsInNone}
use Rattle.filterset_deciding.proofs.packages.find_package.Given as goal

abbrev pub invariant-loop-placed : goal.invariant-loop-placed
invariant-loop-placed l = AllByRecursion IsInNone (take l.placed-index l.branch)
