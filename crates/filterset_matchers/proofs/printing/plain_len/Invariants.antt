use Rattle.std.proofs.Common.{take}
use Rattle.std.specs.Prelude.{All}
use Rattle.filterset_matchers.specs.Runs.{IsPlain}
use Rattle.filterset_matchers.proofs.printing.plain_len.Given as goal

abbrev pub invariant-loop-i : goal.invariant-loop-i
invariant-loop-i l = All IsPlain (take l.i l.value)
