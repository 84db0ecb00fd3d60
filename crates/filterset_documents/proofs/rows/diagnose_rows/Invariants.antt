use Rattle.std.proofs.Common.{map, take}
use Rattle.serde_json.specs.View.{view}
use Rattle.filterset_entries.specs.Checked.{text_row}
use Rattle.filterset_documents.specs.{Diagnostics.RowDiagnostics, Joins.Joins}
use Rattle.filterset_documents.proofs.rows.diagnose_rows.Given as goal

-- the filtersets so far have their diagnostics
abbrev pub invariant-loop-entry : goal.invariant-loop-entry
invariant-loop-entry l =
    Joins (RowDiagnostics l.shown.encoding l.shown.lines.text.now l.names) (map text_row (take l.entry-index l.entries)) (map view l.values.items)
