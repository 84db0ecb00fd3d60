use Rattle.std.proofs.lemmas.Result.{IfOk-weaker}
use Rattle.serde_json.specs.View.{view}
use Rattle.filterset_cli.specs.Report.{no_record, of_record}
use Rattle.filterset_record.specs.{Record.IsRecord, Record.RecordRow, Rows.record_row}
use Rattle.filterset_cli.proofs.ReportLemmas.{no_entry}
use Rattle.filterset_cli.proofs.report.report_of.Goals as goal

pub returns-in-Ok-read : goal.returns-in-Ok-read
returns-in-Ok-read c =
    IfOk-weaker c.report_record.result _ _ (λ made report.
    of_record (view c.in-Ok.value) (record_row c.in-Ok-read.record) c.in-Ok.ensures.ok c.in-Ok-read.ensures.read report) c.report_record.ensures

pub returns-in-Err-Wrong : goal.returns-in-Err-Wrong
returns-in-Err-Wrong c =
    let refuted : ((row : RecordRow) × IsRecord (view c.in-Ok.value) row) → ⊥ =
    no_entry c.in-Err-Wrong.field-0 c.in-Err-Wrong.field-0-0 c.in-Err-Wrong.field-0-is c.in-Err-Wrong.ensures.refused in
    IfOk-weaker c.refusal-in-Err-Wrong.result _ _ (λ made line.
    no_record (view c.in-Ok.value) c.in-Ok.ensures.ok
    (λ row is. refuted (row, is)) line.0 line.1) c.refusal-in-Err-Wrong.ensures
