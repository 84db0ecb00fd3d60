use Rattle.std.proofs.Common.{◌≡◌, ◌++◌, map, string_bytes, take}
use Rattle.filterset_display.specs.{Drawings.marked_lines, Cutting.line_row}
use Rattle.filterset_display.proofs.drawing.push_lines.Given as goal

-- the lines so far were drawn
abbrev pub invariant-loop-line : goal.invariant-loop-line
invariant-loop-line l =
    string_bytes l.drawing ≡ string_bytes l.initial.drawing ++ marked_lines l.margin l.stretch.from l.stretch.to
    (map line_row (take l.line-index l.lines))
