use Rattle.std.proofs.Common.{take}
use Rattle.std.specs.List.{AllByRecursion}
use Rattle.filterset_deciding.specs.Waiting.{IsSettled}
use Rattle.filterset_deciding.proofs.judging.find_open.Given as goal

abbrev pub invariant-loop-one : goal.invariant-loop-one
invariant-loop-one l = AllByRecursion IsSettled (take l.one-index l.values)
