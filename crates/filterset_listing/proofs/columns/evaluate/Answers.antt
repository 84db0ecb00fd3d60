use Rattle.std.proofs.{Common.◌≡◌, Common.◌∙◌, Common.ap, Common.refl, Common.sym, Common.take, lemmas.List.take_all}
use Rattle.filterset_expression.specs.{Contexts.default_of, Expression.formula, Expression.with_default}
use Rattle.filterset_expression.specs.FlatSteps.{postfix}
use Rattle.filterset_listing.specs.SubjectValues.{HasValue}
use Rattle.filterset_listing.proofs.{Defaults.alike, ListingLemmas.AllZip-push, ListingLemmas.one_more}
use Rattle.filterset_listing.proofs.columns.evaluate.Goals.{then-has_default_leaf, else-has_default_leaf}
use Rattle.filterset_listing.proofs.columns.evaluate.Goals as goal

pub returns : goal.returns
returns c packages e is =
    let all = c.loop-subject.invariant packages e is in
    rw (take_all c.loop-subject.subject-index c.args.asked.now.subjects.now c.loop-subject-test.false) at all

pub loop-subject-preserved : goal.loop-subject-preserved
loop-subject-preserved c packages e is =
    let subjects = c.args.asked.now.subjects.now in
    let i = c.loop-subject.subject-index in
    let subject = c.subject-item.result in
    let expr = c.args.compiled.now in
    let same : with_default (default_of c.if-has_default_leaf.context) expr ≡ with_default (default_of c.args.asked.now.context) expr =
    elim c.if-has_default_leaf.branch [
      | then-has_default_leaf w ↦ rw w.context-is refl
      | else-has_default_leaf w ↦ rw w.context-is (alike _ _ (formula expr) (sym c.has_default_leaf.ensures ∙ w.if-has_default_leaf.false))
    ] in
    rw (c.in_ok-push.ensures.items, one_more subjects i subject c.loop-subject-test.true (sym c.subject-item.is))
    (AllZip-push (λ s v. HasValue (record { packages = packages; default = default_of c.args.asked.now.context }) s e v) (take i subjects) _ subject _
    (c.loop-subject.invariant packages e is) (c.in_ok-ask.ensures packages e (default_of c.args.asked.now.context) (c.args.compiled.now, is, c.in_ok-flat.ensures.flat ∙ ap postfix same)))
