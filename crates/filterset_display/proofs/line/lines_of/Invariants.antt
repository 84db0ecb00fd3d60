use Rattle.std.proofs.Common.{◌≡◌, ◌+◌, length, map}
use Rattle.filterset_display.specs.Cutting.{line_row, numbered}
use Rattle.filterset_display.proofs.LineLemmas.{extent}
use Rattle.filterset_display.proofs.line.lines_of.Given as goal

-- the lines so far, and the number and the position of the next
abbrev pub invariant-loop-piece : goal.invariant-loop-piece
invariant-loop-piece l = record {
  number_is : l.number ≡ 1 + length l.yielded;
  start_is : l.start ≡ extent (map (λ x. x.now) l.yielded);
  cut : map line_row l.lines.items ≡ numbered 1 0 (map (λ x. x.now) l.yielded);
}
