use Rattle.std.proofs.Common.{take}
use Rattle.std.specs.List.{AllByRecursion}
use Rattle.filterset_deciding.specs.PackageSets.{IsWithin}
use Rattle.filterset_deciding.proofs.packages.longest_in.Given as goal

abbrev pub invariant-loop-placed : goal.invariant-loop-placed
invariant-loop-placed l = AllByRecursion (IsWithin l.longest) (take l.placed-index l.branch)
