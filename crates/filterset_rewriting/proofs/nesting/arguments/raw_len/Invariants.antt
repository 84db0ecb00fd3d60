use Rattle.std.proofs.Common.{◌≡◌, ◌+◌, drop, false}
use Rattle.filterset_rewriting.specs.Nesting.Arguments.{raw_len}
use Rattle.filterset_rewriting.proofs.nesting.arguments.raw_len.Given as goal

abbrev pub invariant-loop-i : goal.invariant-loop-i
invariant-loop-i l = l.i + raw_len l.is_escaped (drop l.i l.text) ≡ raw_len false l.text
