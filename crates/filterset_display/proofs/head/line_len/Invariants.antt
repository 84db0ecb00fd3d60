use Rattle.std.proofs.Common.{◌≡◌, ◌+◌, drop, option_map}
use Rattle.filterset_display.specs.Frames.{line_len}
use Rattle.filterset_display.proofs.head.line_len.Given as goal

abbrev pub invariant-loop-at : goal.invariant-loop-at
invariant-loop-at l = line_len l.bytes ≡ option_map (λ k. l.at + k) (line_len (drop l.at l.bytes))
