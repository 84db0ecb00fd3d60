use Rattle.std.proofs.Common.{◌≡◌, ◌++◌, replicate, string_bytes}
use Rattle.filterset_display.proofs.column.push_repeated.Given as goal

-- the character was written so many times
abbrev pub invariant-loop-written : goal.invariant-loop-written
invariant-loop-written l = string_bytes l.drawing ≡ string_bytes l.initial.drawing ++ replicate l._written l.c
