use Rattle.std.proofs.Common.{◌∙◌, ap, subst, sym}
use Rattle.std.proofs.lemmas.Result.{IfOk-weaker}
use Rattle.std.specs.Borrow.{Bor}
use Rattle.filterset_display.specs.Columns.{Text}
use Rattle.filterset_entries.specs.{Checked.text_row, Entries.default_row}
use Rattle.filterset_entries.proofs.RowsLemmas.{row_given}
use Rattle.nextest_filtering.specs.Groups.{IsGlobalOnly}
use Rattle.filterset_asking.proofs.asking.ask_plainly.Goals as goal

pub returns-clause-answered : goal.returns-clause-answered
returns-clause-answered c =
    let row = c.in_ok-default.ensures ∙ ap (λ (t : Bor Text). default_row t.now) c.unwrap_or.ensures
    ∙ row_given c.args.asked.now.default_filter _ in
    IfOk-weaker c.ask_under.result _ _ (λ answer told. (
      told.0,
      (
        told.1.0,
        subst IsGlobalOnly (sym told.1.1) c.global_only-groups.ensures.global,
        ap text_row told.1.2 ∙ row,
        told.1.3 ∙ c.new-overrides.ensures.items,
        told.1.4 ∙ c.new-profiles.ensures.items,
      ),
      told.2,
    )) c.ask_under.ensures.answered
