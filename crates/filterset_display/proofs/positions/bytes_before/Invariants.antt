use Rattle.std.proofs.Common.{chars, length}
use Rattle.std.specs.Str.Iter.{chars_rest}
use Rattle.filterset_display.specs.Positions.{bytes_before}
use Rattle.filterset_display.proofs.PositionLemmas.{Walked}
use Rattle.filterset_display.proofs.positions.bytes_before.Given as goal

abbrev pub invariant-loop-character : goal.invariant-loop-character
invariant-loop-character l =
    Walked l.encoding (bytes_before l.encoding l.column (chars l.line)) (length l.line) l.bytes l.left (chars_rest l.character-iterator)
