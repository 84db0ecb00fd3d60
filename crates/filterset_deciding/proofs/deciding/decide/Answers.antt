use Rattle.std.proofs.Common.{◌≡◌, ◌<◌, ◌+◌, ◌*◌, ◌/◌, ◌^◌, ◌∙◌, ap, inl, inr, length, map, subst, sym, ⊎_elim, arith}
use Rattle.std.specs.Borrow.{Bor}
use Rattle.std.proofs.{Math.Nat.div-lt_iff_lt-mul, lemmas.List.length-map, lemmas.List.take_all}
use Rattle.filterset_expression.specs.{Expression.with_default, declared.expression.CompiledExpr.CompiledExpr}
use Rattle.filterset_expression.specs.{Contexts.default_of, FlatSteps.step_of, FlatSteps.steps_of}
use Rattle.filterset_deciding.specs.Deciding.{IsUnmetAt, formulas_asked, leaves_asked, steps_asked}
use Rattle.filterset_deciding.specs.{Demands.IsDoubtAbout, Searching.pushed, Texts.AreComparisons, Texts.HasUnsearched}
use Rattle.filterset_deciding.specs.declared.{demand.Doubt.Doubt, witness.Witness.Witness}
use Rattle.filterset_deciding.proofs.{Branches.always, Doubts.kept_doubt, Doubts.open_leaves, Doubts.pushed-all}
use Rattle.filterset_deciding.proofs.Sizes.{steps_some}
use Rattle.filterset_deciding.proofs.deciding.decide.Goals as goal

pub returns-in-Nothing-clause-always : goal.returns-in-Nothing-clause-always
returns-in-Nothing-clause-always c = λ e.
    always c.args.question c.args.given.now (default_of c.args.cx.now) c.args.exprs.now (steps_of c.loop-expr.steps.items)
    (rw (take_all c.loop-expr.expr-index c.args.exprs.now c.loop-expr-test.false) at c.loop-expr.invariant)
    (rw c.deref.ensures.value at (c.in_ok-search.ensures.nothing c.in-Nothing.is))

pub returns-clause-fails : goal.returns-clause-fails
returns-clause-fails c = λ witness e.
    let default = default_of c.args.cx.now in
    let made = rw (take_all c.loop-expr.expr-index c.args.exprs.now c.loop-expr-test.false) at c.loop-expr.invariant in
    let own = (rw c.deref.ensures.value at (c.in_ok-search.ensures.found c.in-Found.witness c.in-Found.is)) made in
    let same : c.in-Found.witness ≡ witness = cc in
    subst (λ (w : Witness). IsUnmetAt c.args.question c.args.given.now default c.args.exprs.now w.test w.picks.items) same own

pub returns-in-Unknown-clause-unknown : goal.returns-in-Unknown-clause-unknown
returns-in-Unknown-clause-unknown c = λ doubt e.
    let default = default_of c.args.cx.now in
    let made = rw (take_all c.loop-expr.expr-index c.args.exprs.now c.loop-expr-test.false) at c.loop-expr.invariant in
    let kept = c.in_ok-without_repeats-in-Unknown in
    let same : kept.field-0 ≡ doubt = cc in
    let is = rw c.deref.ensures.value at (c.in_ok-search.ensures.unknown c.in-Unknown.doubt c.in-Unknown.is) in
    subst (IsDoubtAbout (leaves_asked c.args.given.now default c.args.exprs.now)) same
    (kept_doubt (formulas_asked c.args.given.now default c.args.exprs.now) (steps_of c.loop-expr.steps.items) c.in-Unknown.doubt kept.field-0 made kept.ensures.field kept.ensures.demands is.is_open.about)

pub returns-in-Unknown-clause-decided : goal.returns-in-Unknown-clause-decided
returns-in-Unknown-clause-decided c = λ doubt e.
    let kept = c.in_ok-without_repeats-in-Unknown in
    let same : kept.field-0 ≡ doubt = cc in
    let is = rw c.deref.ensures.value at (c.in_ok-search.ensures.unknown c.in-Unknown.doubt c.in-Unknown.is) in
    let Open : Doubt → Type 0 = λ d. (¬ AreComparisons d.demands.items) × HasUnsearched d.demands.items in
    subst Open same (λ are. is.is_open.not_compared (kept.ensures.comparisons are), kept.ensures.unsearched is.unsearched)

pub returns-in-Stopped-clause-stopped : goal.returns-in-Stopped-clause-stopped
returns-in-Stopped-clause-stopped c = λ e.
    let default = default_of c.args.cx.now in
    let formulas = formulas_asked c.args.given.now default c.args.exprs.now in
    let steps = c.loop-expr.steps in
    let branches = c.args.budget / c.len.result in
    let made = rw (take_all c.loop-expr.expr-index c.args.exprs.now c.loop-expr-test.false) at c.loop-expr.invariant in
    let stopped = rw c.deref.ensures.value at (c.in_ok-search.ensures.stopped c.in-Stopped.is) in
    let items : c.len.result ≡ length steps.items = omega (arith, c.len.ensures, steps.ok.0) in
    let long : c.len.result ≡ length (steps_asked c.args.given.now default c.args.exprs.now) = items ∙ sym (length-map steps.items step_of) ∙ ap length made in
    let short : (branches < 2 ^ (length (pushed (steps_of steps.items)) + 1))
    → c.args.budget < 2 ^ (length (leaves_asked c.args.given.now default c.args.exprs.now) + 1) * length (steps_asked c.args.given.now default c.args.exprs.now) =
    λ few.
    let some = steps_some (with_default default c.args.given.now) (map (λ (e : Bor CompiledExpr). with_default default e.now) c.args.exprs.now) in
    let positive : 0 < c.len.result = omega (arith, long, some) in
    let less = (div-lt_iff_lt-mul positive).0 (subst (λ n. branches < 2 ^ (n + 1)) (ap (λ s. length (pushed s)) made ∙ ap length (pushed-all formulas)) few) in
    subst (λ n. c.args.budget < 2 ^ (length (leaves_asked c.args.given.now default c.args.exprs.now) + 1) * n) long less in
    ⊎_elim (λ few. inl (short few)) (λ open'. inr (open_leaves formulas (steps_of steps.items) made open')) stopped

pub nonzero_div-branches : goal.nonzero_div-branches
nonzero_div-branches c =
    let default = default_of c.args.cx.now in
    let steps = c.loop-expr.steps in
    let made = rw (take_all c.loop-expr.expr-index c.args.exprs.now c.loop-expr-test.false) at c.loop-expr.invariant in
    let items : c.len.result ≡ length steps.items = omega (arith, c.len.ensures, steps.ok.0) in
    let long : c.len.result ≡ length (steps_asked c.args.given.now default c.args.exprs.now) = items ∙ sym (length-map steps.items step_of) ∙ ap length made in
    let some = steps_some (with_default default c.args.given.now) (map (λ (e : Bor CompiledExpr). with_default default e.now) c.args.exprs.now) in
    omega (arith, long, some)
