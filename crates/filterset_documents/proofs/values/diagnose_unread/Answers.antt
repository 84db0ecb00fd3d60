use Rattle.std.proofs.Common.{rules, arith, ◌≡◌, ◌<◌, List, length, get_or, map, subst, sym}
use Rattle.std.specs.Prelude.{unwrap_or}
use Rattle.std.proofs.lemmas.List.{take_all}
use Rattle.serde_json.specs.View.{view}
use Rattle.filterset_entries.specs.{Checked.text_row, Unread.AreUnreadRemarks}
use Rattle.filterset_display.specs.{Remarks.remark_row, declared.remark.Remark.Remark}
use Rattle.filterset_faults.specs.Span.{span}
use Rattle.filterset_documents.specs.Diagnostics.{IsRemarkAt}
use Rattle.filterset_documents.proofs.JoinLemmas.{Zips-rows}
use Rattle.filterset_documents.proofs.values.diagnose_unread.Goals as goal

pub returns : goal.returns
returns c =
    let remarks = c.deref-remark-items.result.now in
    let are = c.loop-remark.invariant in
    let Are : List Remark → Type 0 = λ rs. AreUnreadRemarks c.args.shown.now.lines.text.now (map text_row c.args.entries.now) (map remark_row rs) in
    (map remark_row remarks, subst Are (sym c.deref-remark-items.ensures.value) (rw c.requires at c.in_ok-remarks.ensures), rw (take_all c.loop-remark.remark-index remarks c.loop-remark-test.false) at are)

pub loop-remark-preserved : goal.loop-remark-preserved
loop-remark-preserved c =
    let shown = c.args.shown.now in
    let remarks = c.deref-remark-items.result.now in
    let i = c.loop-remark.remark-index in
    let remark = c.remark-item.result in
    let lt : i < length remarks = omega (arith, c.loop-remark-test.true) in
    let at : get_or remarks i remark ≡ remark = search (rules, c.remark-item.is) in
    rw c.in_ok-push.ensures.items
    (Zips-rows (λ r d. IsRemarkAt shown.encoding shown.lines.text.now (unwrap_or r.span (span 0 0)) r d) remark_row view remarks i remark c.loop-remark.values.items _
    lt at c.loop-remark.invariant (rw (c.unwrap_or-span.ensures, c.new.ensures) at c.in_ok-remark_value.ensures))
