use Rattle.std.proofs.Common.{subst, sym}
use Rattle.filterset_listing.specs.{Asking.ExprPicks, Asking.TreePicks, Comparing.TellsUnknown}
use Rattle.filterset_listing.specs.Pickers.{expr_picker, tree_picker}
use Rattle.filterset_listing.proofs.{AnswerLemmas.one_answer, DifferenceLemmas.tells_unknown}
use Rattle.filterset_listing.proofs.comparing.text.any_unknown.Goals as goal

pub returns-clause-picks : goal.returns-clause-picks
returns-clause-picks c default one other overrides binaries are =
    subst (TellsUnknown (expr_picker default overrides one) (expr_picker default overrides other) binaries) (sym c.has_any_unknown.ensures)
    (tells_unknown (expr_picker default overrides one) (expr_picker default overrides other)
    (one_answer default overrides (ExprPicks default one)) (one_answer default overrides (ExprPicks default other)) binaries c.args.all.now are)

pub returns-clause-meaning : goal.returns-clause-meaning
returns-clause-meaning c packages default overrides one other binaries are =
    subst (TellsUnknown (tree_picker packages default overrides one) (tree_picker packages default overrides other) binaries) (sym c.has_any_unknown.ensures)
    (tells_unknown (tree_picker packages default overrides one) (tree_picker packages default overrides other)
    (one_answer default overrides (TreePicks packages default one)) (one_answer default overrides (TreePicks packages default other)) binaries c.args.all.now are)
