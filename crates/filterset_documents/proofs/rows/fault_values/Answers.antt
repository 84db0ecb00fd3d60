use Rattle.std.proofs.Common.{rules, arith, ◌≡◌, ◌<◌, get_or, length, option_map}
use Rattle.std.proofs.lemmas.List.{take_all}
use Rattle.serde_json.specs.View.{view}
use Rattle.filterset_display.specs.Remarks.{remark_row}
use Rattle.filterset_entries.specs.Placements.{placement_of}
use Rattle.filterset_documents.specs.Diagnostics.{IsRemarkAt, fault_span}
use Rattle.filterset_documents.proofs.JoinLemmas.{Zips-rows}
use Rattle.filterset_documents.proofs.rows.fault_values.Goals as goal

pub returns : goal.returns
returns c =
    let are = c.loop-fault.invariant in
    rw (take_all c.loop-fault.fault-index c.args.faults.now c.loop-fault-test.false) at are

pub loop-fault-preserved : goal.loop-fault-preserved
loop-fault-preserved c =
    let shown = c.args.shown.now in
    let place = option_map placement_of c.args.place in
    let faults = c.args.faults.now in
    let i = c.loop-fault.fault-index in
    let fault = c.fault-item.result in
    let lt : i < length faults = omega (arith, c.loop-fault-test.true) in
    let at : get_or faults i fault ≡ fault = search (rules, c.fault-item.is) in
    let is = rw c.fault_span-span.ensures at c.in_ok-remark_value.ensures in
    rw c.in_ok-push.ensures.items
    (Zips-rows (λ fault d. IsRemarkAt shown.encoding shown.lines.text.now (fault_span place fault.span) fault d) remark_row view faults i fault
    c.loop-fault.values.items _ lt at c.loop-fault.invariant is)
