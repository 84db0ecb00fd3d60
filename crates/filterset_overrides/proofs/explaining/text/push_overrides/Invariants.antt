use Rattle.std.proofs.Common.{◌≡◌, ◌++◌, map, string_bytes, take}
use Rattle.filterset_overrides.specs.ExplainedText.{override_lines}
use Rattle.filterset_overrides.proofs.explaining.text.push_overrides.Given as goal

-- those so far were written
abbrev pub invariant-loop-at : goal.invariant-loop-at
invariant-loop-at l =
    string_bytes l.output ≡ string_bytes l.initial.output ++ override_lines (take l.at l.all) (map string_bytes l.reasons)
