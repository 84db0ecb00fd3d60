use Rattle.std.proofs.Common.{◌≡◌, ◌+◌, ◌*◌, ◌≤◌, length}
use Rattle.std.specs.{Prelude.encode_utf8_all, Str.Iter.chars_rest}
use Rattle.filterset_display.proofs.ColumnLemmas.{within}
use Rattle.filterset_display.proofs.column.columns_between.Given as goal

-- the columns of the characters so far, which take the bytes before `at`
abbrev pub invariant-loop-c : goal.invariant-loop-c
invariant-loop-c l = record {
  counted : l.columns ≡ within l.from l.to 0 l.yielded;
  passed : l.at ≡ length (encode_utf8_all l.yielded);
  left : l.at + length (chars_rest l.c-iterator) ≡ length l.text;
  bounded : l.columns ≤ 2 * l.at;
}
