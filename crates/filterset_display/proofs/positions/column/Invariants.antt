use Rattle.std.proofs.Common.{length}
use Rattle.std.specs.Str.Iter.{chars_rest}
use Rattle.filterset_display.specs.Positions.{column_of}
use Rattle.filterset_display.proofs.PositionLemmas.{Counted}
use Rattle.filterset_display.proofs.positions.column.Given as goal

abbrev pub invariant-loop-character : goal.invariant-loop-character
invariant-loop-character l = Counted l.encoding (column_of l.encoding l.front) (length l.front) l.column (chars_rest l.character-iterator)
