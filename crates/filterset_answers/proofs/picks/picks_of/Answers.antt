use Rattle.std.proofs.{Common.◌≡◌, Common.List, Common.false, Common.subst, Common.sym, lemmas.Result.IfOk-weaker}
use Rattle.std.specs.List.{AllZip}
use Rattle.filterset_expression.specs.{Contexts.default_of, Expression.has_leaf, Expression.is_default}
use Rattle.filterset_expression.specs.{Meaning.IsCompiled, declared.expression.CompiledExpr.CompiledExpr}
use Rattle.filterset_listing.specs.{Asking.ExprCanPick, Asking.ExprPicks, Groups.Says, Listing.IsBinaryPicks}
use Rattle.filterset_listing.specs.Selection.{RunCanPick, RunPicks}
use Rattle.filterset_listing.specs.declared.groups.GroupOverride.{GroupOverride}
use Rattle.filterset_listing.proofs.PicksLemmas.{all_picks_alike}
use Rattle.filterset_answers.proofs.picks.picks_of.Goals as goal

pub returns : goal.returns
returns c =
    let default = default_of c.args.tests.context.now in
    let overrides = c.args.tests.overrides.now in
    let ignores = c.args.ignores_default in
    let selection = c.in_ok-selection.selection in
    IfOk-weaker c.list.result _ _ (λ all are setting basis trees is of_overrides none of_trees.
    let packages = setting.graph.now in
    let tree = basis.default_tree in
    let means = c.in_ok-selection.ensures.meaning packages default tree trees (subst (IsCompiled packages tree) is basis.compiled) (subst (λ (e : CompiledExpr). has_leaf is_default e ≡ false) is none) of_trees in
    let picks = all_picks_alike default overrides (ExprPicks default selection) (RunPicks packages ignores default tree trees) (ExprCanPick default selection) (RunCanPick packages ignores default tree trees)
    means.0 means.1 _ _ are in
    let Picks : CompiledExpr → List GroupOverride → Type 0 = λ e os. AllZip (IsBinaryPicks (Says e os (RunPicks packages ignores e tree trees)) (RunCanPick packages ignores e tree trees)) c.args.tests.binaries.now all.items in
    subst (Picks basis.default) (sym of_overrides) (subst (λ (e : CompiledExpr). Picks e overrides) (sym is) picks)) c.list.ensures.picks
