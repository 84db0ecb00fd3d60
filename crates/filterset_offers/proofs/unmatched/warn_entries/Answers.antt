use Rattle.std.proofs.{Common.map, Common.subst, lemmas.Result.IfOk-weaker}
use Rattle.serde_json.specs.View.{view}
use Rattle.filterset_entries.specs.Checked.{text_row}
use Rattle.filterset_documents.specs.Joins.{Joins}
use Rattle.filterset_offers.specs.{Workspaces.workspace_row, declared.workspace.Workspace.Workspace}
use Rattle.filterset_offers.specs.Unmatched.{RowWarnings}
use Rattle.filterset_offers.proofs.unmatched.warn_entries.Goals as goal

pub returns : goal.returns
returns c =
    let shown = c.args.shown.now in
    IfOk-weaker c.warn_each.result _ _
    (λ values are.
    let Are : Workspace → Type 0 = λ w. Joins (RowWarnings (workspace_row w) shown.encoding shown.lines.text.now) (map text_row c.args.entries.now) (map view values.items) in
    rw c.in-Some.is (subst Are c.in_ok-index.ensures are))
    c.warn_each.ensures
