use Rattle.std.proofs.Common.{rules, subst, sym}
use Rattle.std.proofs.lemmas.Iterator.{YieldsList-from_slice, Search.any_from_yields_List}
use Rattle.filterset_listing.specs.{Asking.ExprPicks, Asking.TreePicks, Comparing.TellsDifference}
use Rattle.filterset_listing.specs.{ComparisonText.differs, Pickers.expr_picker, Pickers.tree_picker}
use Rattle.filterset_listing.proofs.{AnswerLemmas.one_answer, DifferenceLemmas.tells_difference}
use Rattle.filterset_listing.proofs.comparing.text.differ.Goals as goal

pub returns-clause-picks : goal.returns-clause-picks
returns-clause-picks c default one other overrides binaries are =
    let value = any_from_yields_List differs _ _ c.any.result c.any.ensures.ran (YieldsList-from_slice c.args.all.now cc) (λ x b q k. search rules) in
    subst (TellsDifference (expr_picker default overrides one) (expr_picker default overrides other) binaries) (sym value)
    (tells_difference (expr_picker default overrides one) (expr_picker default overrides other)
    (one_answer default overrides (ExprPicks default one)) (one_answer default overrides (ExprPicks default other)) binaries c.args.all.now are)

pub returns-clause-meaning : goal.returns-clause-meaning
returns-clause-meaning c packages default overrides one other binaries are =
    let value = any_from_yields_List differs _ _ c.any.result c.any.ensures.ran (YieldsList-from_slice c.args.all.now cc) (λ x b q k. search rules) in
    subst (TellsDifference (tree_picker packages default overrides one) (tree_picker packages default overrides other) binaries) (sym value)
    (tells_difference (tree_picker packages default overrides one) (tree_picker packages default overrides other)
    (one_answer default overrides (TreePicks packages default one)) (one_answer default overrides (TreePicks packages default other)) binaries c.args.all.now are)
