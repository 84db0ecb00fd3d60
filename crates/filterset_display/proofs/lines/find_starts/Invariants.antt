use Rattle.std.proofs.Common.{◌≡◌, ◌++◌, drop}
use Rattle.filterset_display.specs.Positions.{line_starts, starts_from}
use Rattle.filterset_display.proofs.lines.find_starts.Given as goal

abbrev pub invariant-loop-at : goal.invariant-loop-at
invariant-loop-at l = l.starts.items ++ starts_from l.at (drop l.at l.text) ≡ line_starts l.text
