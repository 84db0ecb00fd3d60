use Rattle.std.proofs.Common.{◌++◌, false, map, refl, string_bytes, subst}
use Rattle.filterset_answers.specs.Answers.{FaultsOf}
use Rattle.filterset_answers.proofs.CompilingLemmas.{empty_log}
use Rattle.filterset_answers.specs.declared.compiling.{Compiler.Compiler, FaultLog.FaultLog}
use Rattle.filterset_entries.specs.{Checked.HasRefusal, Checked.text_row, Entries.setting_rows}
use Rattle.filterset_answers.proofs.compiling.compile_texts.Goals as goal

pub returns : goal.returns
returns c =
    let setting = c.args.setting.now in
    let refused = rw c.in-None.is at c.in_ok-filtersets.ensures in
    let compiler : Compiler = record { context = c.in_ok-new.field-0; groups = setting.groups; form = c.args.form } in
    let log : FaultLog = record { text = c.new-2.result; count = 0; has_any = false } in
    let after = refused.1 (empty_log compiler log c.new-2.ensures.bytes refl refl) in
    let written = subst (λ packages. FaultsOf (HasRefusal packages setting.groups.now) c.args.form 1 (setting_rows setting ++ map text_row c.args.entries.now) after.faulty (string_bytes c.compile_all.new.log.text)) c.in_ok-new.ensures after.written in
    (after.faulty, after.some refused.0, written)
