use Rattle.std.proofs.Common.{map, take}
use Rattle.filterset_entries.specs.Checked.{text_row}
use Rattle.filterset_documents.specs.Joins.{Joins}
use Rattle.filterset_server.specs.Highlights.{RowMarks}
use Rattle.filterset_server.proofs.highlighting.ordered_marks.Given as goal

-- what is shown of the filtersets so far
abbrev pub invariant-loop-entry : goal.invariant-loop-entry
invariant-loop-entry l =
    Joins (RowMarks l.shown.encoding l.shown.lines.text.now) (map text_row (take l.entry-index l.entries)) l.marks.items
