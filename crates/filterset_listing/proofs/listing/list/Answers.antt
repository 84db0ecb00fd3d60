use Rattle.std.proofs.{Common.◌∷◌, Common.[], Common.subst, Common.sym, Common.take, lemmas.List.take_all}
use Rattle.filterset_expression.specs.Contexts.{default_of}
use Rattle.filterset_expression.proofs.Meanings.{alike, compiled_means}
use Rattle.filterset_listing.specs.Asking.{ExprCanPick, ExprPicks, TreeCanPick, TreePicks, in_group}
use Rattle.filterset_listing.specs.{Groups.Says, Listing.IsBinaryPicks, Overrides.AreLaid}
use Rattle.filterset_listing.proofs.{GroupLemmas.says_for, ListingLemmas.AllZip-push, ListingLemmas.one_more}
use Rattle.filterset_listing.proofs.MeaningLemmas.{compiled_can_pick}
use Rattle.filterset_listing.proofs.PicksLemmas.{all_answers_alike, all_picks_alike}
use Rattle.filterset_listing.proofs.listing.list.Goals as goal

pub loop-binary-preserved : goal.loop-binary-preserved
loop-binary-preserved c =
    let default = default_of c.args.context.now in
    let expr = c.args.expr.now in
    let flat = c.in_ok-flat in
    let overrides = c.args.overrides.now in
    let used = c.overrides_for.result.now in
    let binaries = c.args.binaries.now in
    let i = c.loop-binary.binary-index in
    let binary = c.binary-item.result in
    let is = c.in_ok-picks_of.ensures expr default used flat.ensures.flat (subst (AreLaid default used) (sym c.deref.ensures.value) c.in_ok-laid.ensures) in
    let own = all_answers_alike (Says default used (ExprPicks default expr)) (Says default overrides (ExprPicks default expr)) (ExprCanPick default expr) (ExprCanPick default expr)
    (says_for flat.flat expr default overrides used flat.ensures.flat c.overrides_for.ensures) (λ b. alike (ExprCanPick default expr b)) (binary ∷ []) (c.in_ok-picks_of.field-0 ∷ []) (is, tt) in
    rw (c.in_ok-push.ensures.items, one_more binaries i binary c.loop-binary-test.true (sym c.binary-item.is))
    (AllZip-push (IsBinaryPicks (Says default overrides (ExprPicks default expr)) (ExprCanPick default expr)) (take i binaries) _ binary _ c.loop-binary.invariant own.0)

pub returns-clause-picks : goal.returns-clause-picks
returns-clause-picks c =
    let all = c.loop-binary.invariant in
    rw (take_all c.loop-binary.binary-index c.args.binaries.now c.loop-binary-test.false) at all

pub returns-clause-meaning : goal.returns-clause-meaning
returns-clause-meaning c packages tree is =
    let default = default_of c.args.context.now in
    let expr = c.args.expr.now in
    all_picks_alike default c.args.overrides.now (ExprPicks default expr) (TreePicks packages default tree) (ExprCanPick default expr) (TreeCanPick packages default tree)
    (λ test group. compiled_means packages test default (in_group group) tree expr is) (λ binary. compiled_can_pick packages binary default tree expr is) c.args.binaries.now c.loop-binary.all.items
    (returns-clause-picks c)
