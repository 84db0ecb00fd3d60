use Rattle.std.proofs.Common.{◌≡◌, ◌++◌, string_bytes}
use Rattle.std.specs.List.{flat_map}
use Rattle.filterset_display.specs.Columns.{drawn_char}
use Rattle.filterset_display.proofs.column.push_drawn.Given as goal

-- the characters so far were drawn
abbrev pub invariant-loop-c : goal.invariant-loop-c
invariant-loop-c l = string_bytes l.drawing ≡ string_bytes l.initial.drawing ++ flat_map drawn_char l.yielded
