use Rattle.std.proofs.Common.{◌≡◌, ◌++◌, ℕ, List, IsUtf8}
use Rattle.std.specs.Fmt.{HasWritten, IsPlainFormatter}
use Rattle.filterset_matchers.specs.PrintedMatcher.{printed_value}
use Rattle.filterset_matchers.proofs.printing.write_value.Given as goal

-- what was written so far, and what the rest prints
abbrev pub invariant-loop-c : goal.invariant-loop-c
invariant-loop-c g l =
    (written : List ℕ) × (printed_value l.value ≡ written ++ printed_value l.chars.rest.now) × IsUtf8 l.chars.rest.now
    × (IsPlainFormatter l.fn.f → HasWritten g.W.Write.write_str_gives l.fn.f written l.f)
