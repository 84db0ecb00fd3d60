use Rattle.std.proofs.Common.{map, take}
use Rattle.std.specs.{List.AllZip, Prelude.unwrap_or}
use Rattle.serde_json.specs.View.{view}
use Rattle.filterset_display.specs.Remarks.{remark_row}
use Rattle.filterset_faults.specs.Span.{span}
use Rattle.filterset_documents.specs.Diagnostics.{IsRemarkAt}
use Rattle.filterset_documents.proofs.values.diagnose_unread.Given as goal

-- the remarks so far have their warnings
abbrev pub invariant-loop-remark : goal.invariant-loop-remark
invariant-loop-remark l =
    AllZip (λ r d. IsRemarkAt l.shown.encoding l.shown.lines.text.now (unwrap_or r.span (span 0 0)) r d) (map remark_row (take l.remark-index l.remark-items)) (map view l.values.items)
