use Rattle.std.proofs.Common.{map, take}
use Rattle.serde_json.specs.View.{view}
use Rattle.filterset_entries.specs.Checked.{text_row}
use Rattle.filterset_documents.specs.Joins.{Joins}
use Rattle.filterset_offers.specs.Workspaces.{workspace_row}
use Rattle.filterset_offers.specs.Unmatched.{RowWarnings}
use Rattle.filterset_offers.proofs.unmatched.warn_each.Given as goal

-- the filtersets so far have their warnings
abbrev pub invariant-loop-entry : goal.invariant-loop-entry
invariant-loop-entry l =
    Joins (RowWarnings (workspace_row l.asked.index.workspace) l.shown.encoding l.shown.lines.text.now) (map text_row (take l.entry-index l.entries)) (map view l.values.items)
