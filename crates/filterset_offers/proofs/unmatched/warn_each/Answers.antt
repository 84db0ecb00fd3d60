use Rattle.std.proofs.Common.{rules, arith, ◌≡◌, ◌<◌, length, get_or}
use Rattle.std.proofs.lemmas.List.{take_all}
use Rattle.serde_json.specs.View.{view}
use Rattle.filterset_entries.specs.Checked.{text_row}
use Rattle.filterset_documents.specs.Joins.{no_parts}
use Rattle.filterset_documents.proofs.JoinLemmas.{Joins-more}
use Rattle.filterset_offers.specs.Workspaces.{workspace_row}
use Rattle.filterset_offers.specs.Unmatched.{RowWarnings}
use Rattle.filterset_offers.proofs.unmatched.warn_each.Goals as goal

pub returns : goal.returns
returns c =
    let are = c.loop-entry.invariant in
    rw (take_all c.loop-entry.entry-index c.args.entries.now c.loop-entry-test.false) at are

pub loop-entry-init : goal.loop-entry-init
loop-entry-init c = rw c.new-values.ensures.items no_parts

pub loop-entry-preserved : goal.loop-entry-preserved
loop-entry-preserved c =
    let shown = c.args.shown.now in
    let entries = c.args.entries.now in
    let i = c.loop-entry.entry-index in
    let entry = c.entry-item.result in
    let lt : i < length entries = omega (arith, c.loop-entry-test.true) in
    let at : get_or entries i entry ≡ entry = search (rules, c.entry-item.is) in
    rw c.in_ok-append.ensures.items
    (Joins-more (RowWarnings (workspace_row c.args.asked.now.index.workspace) shown.encoding shown.lines.text.now) text_row view entries i entry
    c.loop-entry.values.items c.in_ok-more.more.items lt at c.loop-entry.invariant c.in_ok-more.ensures)
