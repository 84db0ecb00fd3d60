use Rattle.std.proofs.Common.{take}
use Rattle.std.specs.List.{AllZip}
use Rattle.filterset_answers.specs.Overriding.{IsListed}
use Rattle.filterset_answers.proofs.overriding.listed_binaries.Given as goal

-- the binaries so far
abbrev pub invariant-loop-picks : goal.invariant-loop-picks
invariant-loop-picks l = AllZip IsListed (take l.picks-index l.all) l.listed.items
