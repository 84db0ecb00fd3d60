use Rattle.std.proofs.Common.{◌≡◌, ◌+◌, ◌++◌, drop, map, string_bytes}
use Rattle.filterset_verdicts.specs.Reasons.{reason_lines}
use Rattle.filterset_verdicts.proofs.reasons.push_reasons.Given as goal

-- what is written, with the lines of the others, is all lines
abbrev pub invariant-loop-i : goal.invariant-loop-i
invariant-loop-i l =
    string_bytes l.output ++ reason_lines (l.i + 1) (map (λ s. string_bytes s) (drop l.i l.reasons)) ≡ string_bytes l.initial.output ++ reason_lines 1 (map (λ s. string_bytes s) l.reasons)
