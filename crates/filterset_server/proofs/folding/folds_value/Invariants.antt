use Rattle.std.proofs.Common.{map, take}
use Rattle.serde_json.specs.View.{view}
use Rattle.filterset_entries.specs.Checked.{text_row}
use Rattle.filterset_documents.specs.Joins.{Joins}
use Rattle.filterset_server.specs.Folding.{RowFolds}
use Rattle.filterset_server.proofs.folding.folds_value.Given as goal

-- what is folded of the filtersets so far
abbrev pub invariant-loop-entry : goal.invariant-loop-entry
invariant-loop-entry l =
    Joins (RowFolds l.shown.encoding l.shown.lines.text.now) (map text_row (take l.entry-index l.entries)) (map view l.values.items)
