use Rattle.std.proofs.Common.{◌≡◌, ◌+◌, drop}
use Rattle.filterset_language.specs.Parsing.Front.{close_len}
use Rattle.filterset_language.proofs.parsing.lengths.close_len.Given as goal

abbrev pub invariant-loop-i : goal.invariant-loop-i
invariant-loop-i l = l.i + close_len (drop l.i l.text) ≡ close_len l.text
