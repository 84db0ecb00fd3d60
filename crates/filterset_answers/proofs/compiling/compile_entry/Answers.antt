use Rattle.std.proofs.Common.{rules, ◌≡◌, map, subst}
use Rattle.filterset_display.specs.Remarks.{remark_row}
use Rattle.filterset_entries.specs.{Checked.all_remarks, Checked.text_row, Forms.FaultPieces}
use Rattle.filterset_answers.proofs.compiling.compile_entry.Goals as goal

pub returns-in_ok-push_faults-in-Err : goal.returns-in_ok-push_faults-in-Err
returns-in_ok-push_faults-in-Err c =
    let entry = c.args.entry.now in
    let faults = c.in-Err.faults in
    let wrote = c.in_ok-push_faults-in-Err.ensures in
    let is : map remark_row c.as_slice.result.now ≡ all_remarks faults = search rules in
    (wrote.0, wrote.1, (faults, search rules, subst (λ remarks. FaultPieces c.args.compiler.now.form (text_row entry) c.args.number remarks wrote.0) is wrote.2))
