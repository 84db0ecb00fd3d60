use Rattle.std.proofs.{Common.inr, Common.refl, Common.string_bytes, Common.subst, lemmas.List.append-nil}
use Rattle.filterset_answers.specs.Answers.{FaultsOf}
use Rattle.filterset_entries.specs.{Checked.HasRefusal, Entries.setting_rows}
use Rattle.filterset_asking.proofs.setting.warn_setting.Goals as goal

pub returns-in-Faults : goal.returns-in-Faults
returns-in-Faults c =
    let setting = c.args.setting.now in
    let pieces = string_bytes c.in-Faults._faults in
    let refused = rw c.in-Faults.is at c.in_ok-filtersets.ensures in
    let written = subst (λ rows. FaultsOf (HasRefusal setting.graph.now setting.groups.now) c.args.texts.form 1 rows refused.0 pieces) (append-nil (setting_rows setting)) refused.2 in
    inr (refused.0, pieces, refused.1, written, c.new.ensures.bytes, refl)
