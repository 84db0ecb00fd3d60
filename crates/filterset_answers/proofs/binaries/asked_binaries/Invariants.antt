use Rattle.std.proofs.Common.{take}
use Rattle.std.specs.List.{AllZip}
use Rattle.filterset_answers.specs.Binaries.{IsAsked}
use Rattle.filterset_answers.proofs.binaries.asked_binaries.Given as goal

-- the suites so far have their binaries
abbrev pub invariant-loop-suite : goal.invariant-loop-suite
invariant-loop-suite l = AllZip IsAsked (take l.suite-index l.suites) l.binaries.items
