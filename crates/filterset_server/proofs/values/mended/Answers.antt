use Rattle.std.proofs.Common.{◌≡◌, ◌∙◌, ap, refl, subst}
use Rattle.serde_json.specs.View.{view}
use Rattle.filterset_display.specs.Remarks.{RemarkRow, fault_remark}
use Rattle.filterset_entries.specs.Placements.{placement_of}
use Rattle.filterset_faults.specs.declared.span.SourceSpan.{SourceSpan}
use Rattle.filterset_documents.specs.Diagnostics.{IsRemarkAt, fault_span}
use Rattle.std.specs.Prelude.{Some}
use Rattle.filterset_server.proofs.values.mended.Goals as goal

pub returns-in_ok-push-in-Some : goal.returns-in_ok-push-in-Some
returns-in_ok-push-in-Some c =
    let shown = c.args.target.now.subject.now.shown.now in
    let value = c.in_ok-remark_value-in-Some.field-0 in
    let At : SourceSpan → RemarkRow → Type 0 = λ s r. IsRemarkAt shown.encoding shown.lines.text.now s r (view value) in
    let remark = c.in_ok-remark-in-Some.ensures in
    let at : c.fault_span-span.result ≡ fault_span (Some (placement_of c.args.target.now.place)) (fault_remark c.in-Some.fault).span =
    c.fault_span-span.ensures ∙ ap (λ (r : RemarkRow). fault_span (Some (placement_of c.args.target.now.place)) r.span) remark in
    let is = subst (λ s. At s (fault_remark c.in-Some.fault)) at (subst (At c.fault_span-span.result) remark c.in_ok-remark_value-in-Some.ensures) in
    rw c.in-Some.is (view value, rw (c.in_ok-push-in-Some.ensures.items, c.new-values.ensures.items) refl, is)
