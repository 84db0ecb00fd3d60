use Rattle.std.proofs.Common.{◌≡◌, ◌++◌, string_bytes}
use Rattle.std.specs.List.{flat_map}
use Rattle.filterset_display.specs.Annotations.{written_in}
use Rattle.filterset_display.proofs.escaping.push_escaped.Given as goal

-- the characters so far were written
abbrev pub invariant-loop-c : goal.invariant-loop-c
invariant-loop-c l = string_bytes l.output ≡ string_bytes l.initial.output ++ flat_map (written_in l.part) l.yielded
