use Rattle.std.proofs.Common.{◌≡◌, ◌+◌, ◌++◌, drop, string_bytes}
use Rattle.filterset_verdicts.specs.VerdictText.{picked_lines}
use Rattle.filterset_verdicts.proofs.text.push_picks.Given as goal

-- what is written, with the lines of the others, is all lines
abbrev pub invariant-loop-i : goal.invariant-loop-i
invariant-loop-i l =
    string_bytes l.output ++ picked_lines (l.i + 1) (drop l.i l.picks) ≡ string_bytes l.initial.output ++ picked_lines 1 l.picks
