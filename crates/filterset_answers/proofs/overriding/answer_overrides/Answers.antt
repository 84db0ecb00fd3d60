use Rattle.std.proofs.Common.{◌∙◌, ◌++◌, ap, string_bytes, subst, sym}
use Rattle.std.specs.List.{AllZip}
use Rattle.filterset_display.specs.Columns.{Text}
use Rattle.filterset_expression.specs.{Meaning.IsCompiled, declared.expression.CompiledExpr.CompiledExpr}
use Rattle.filterset_entries.specs.Endings.{unknown_ending}
use Rattle.filterset_answers.specs.Overriding.{Counts, uncounted_text}
use Rattle.filterset_answers.proofs.OverridingLemmas.{asked_compiled}
use Rattle.filterset_answers.proofs.overriding.answer_overrides.Goals as goal

pub returns : goal.returns
returns c setting basis trees is of_groups none of_trees of_asked =
    let asked = c.args.asked.now in
    let all = c.in_ok-all.all.items in
    let picks = c.in_ok-all.ensures setting basis trees is of_groups none (subst (AllZip (IsCompiled setting.graph.now) trees) (sym c.in_ok-exprs.ensures) of_trees) in
    let table = rw c.as_slice.ensures.value at c.in_ok-table.ensures in
    let listed = rw c.as_slice-all.ensures.value at c.in_ok-listed.ensures in
    let uncounted = rw c.as_slice-all.ensures.value at c.in_ok-push_uncounted.ensures in
    let unknown = rw c.as_slice-all.ensures.value at c.is_unknown.ensures in
    let counts : Counts setting.graph.now _ asked all c.unknown_ending.result (string_bytes c.push_uncounted.new.output) = (
      c.in_ok-listed.listed.items,
      c.in_ok-table.table,
      listed,
      table setting.graph.now (asked_compiled setting setting.overrides.now asked of_asked),
      uncounted ∙ ap (λ (text : Text). text ++ uncounted_text all) c.in_ok-text.ensures,
      c.unknown_ending.ensures ∙ ap unknown_ending unknown,
    ) in
    (all, asked, picks, of_asked, subst (λ (e : CompiledExpr). Counts setting.graph.now e asked all c.unknown_ending.result (string_bytes c.push_uncounted.new.output)) (sym is) counts)
