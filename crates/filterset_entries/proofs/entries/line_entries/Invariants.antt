use Rattle.std.proofs.Common.{◌≡◌, length, map, take}
use Rattle.std.specs.{List.enumerate_from, List.filter_map, Str.Lines.lines}
use Rattle.filterset_entries.specs.{Checked.text_row, Entries.line_row, Entries.line_start}
use Rattle.filterset_entries.proofs.entries.line_entries.Given as goal

-- the lines so far have their entries, and the next begins here
abbrev pub invariant-loop-line : goal.invariant-loop-line
invariant-loop-line l = record {
  count : l.number ≡ length l.yielded;
  start : l.from ≡ line_start l.lines.file.now.text.now (length l.yielded);
  made : map text_row l.entries.items ≡ filter_map (line_row l.lines.keeps_blank l.lines.file l.lines.kind) (enumerate_from 0 (take (length l.yielded) (lines l.lines.file.now.text.now)));
}
