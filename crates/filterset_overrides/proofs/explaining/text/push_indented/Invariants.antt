use Rattle.std.proofs.Common.{◌≡◌, ◌++◌, map, string_bytes}
use Rattle.std.specs.List.{flat_map}
use Rattle.filterset_overrides.specs.ExplainedText.{indented_line}
use Rattle.filterset_overrides.proofs.explaining.text.push_indented.Given as goal

-- those so far were written
abbrev pub invariant-loop-line : goal.invariant-loop-line
invariant-loop-line l =
    string_bytes l.output ≡ string_bytes l.initial.output ++ flat_map indented_line (map (λ s. s.now) l.yielded)
