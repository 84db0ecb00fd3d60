use Rattle.std.proofs.{Common.◌≡◌, Common.◌-◌, Common.◌∙◌, Common.refl, Common.subst, lemmas.Result.IfOk-weaker}
use Rattle.std.specs.Prelude.{codes}
use Rattle.toml.specs.Errors.{span_end, span_start}
use Rattle.serde_json.specs.View.{view}
use Rattle.filterset_faults.specs.{Span.span, declared.span.SourceSpan.SourceSpan}
use Rattle.filterset_documents.specs.Diagnostics.{IsDiagnostic}
use Rattle.filterset_display.specs.declared.remark.Severity.TheVariants.{Error}
use Rattle.filterset_documents.proofs.refusals.toml_value.Goals as goal

pub returns : goal.returns
returns c =
    let shown = c.args.shown.now in
    let error = c.args.error.now in
    let message = c.message.result.now in
    let range = c.in-Some.ensures.range in
    let same : c.new-span.result ≡ span (span_start error) (span_end error - span_start error) =
    c.new-span.ensures ∙ rw (c.saturating_sub.ensures, range.0, range.1) refl in
    IfOk-weaker c.diagnostic_at.result _ _
    (λ value is.
    let P : SourceSpan → Type 0 = λ s. IsDiagnostic shown.encoding shown.lines.text.now Error s (codes "toml") message (view value) in
    (message, subst P same is))
    c.diagnostic_at.ensures
