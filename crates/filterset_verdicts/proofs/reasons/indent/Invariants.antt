use Rattle.std.proofs.Common.{◌≡◌, map, string_bytes}
use Rattle.std.specs.List.{flat_map}
use Rattle.filterset_verdicts.specs.Reasons.{indented_line}
use Rattle.filterset_verdicts.proofs.reasons.indent.Given as goal

-- the lines so far
abbrev pub invariant-loop-line : goal.invariant-loop-line
invariant-loop-line l = string_bytes l.moved ≡ flat_map indented_line (map (λ s. s.now) l.yielded)
