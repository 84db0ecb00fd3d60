use Rattle.std.proofs.Common.{rules, ◌≡◌, inl, inr, refl, sym, ap, subst, ◌∙◌, Vec, Global}
use Rattle.std.specs.Prelude.{codes}
use Rattle.filterset_configuration.specs.declared.platforms.expressions.CfgExpr.{CfgExpr}
use Rattle.filterset_configuration.specs.PlatformTrees.{Expr, Exprs, all, any, negated, none, more, expr_of, exprs_of}
use Rattle.filterset_configuration.specs.PlatformGrammar.{Expression, GoesOn, Inside, Sign}
use Rattle.filterset_configuration.proofs.PlatformFaults.{gives_error, placed_along, placed_error, true_along}
use Rattle.filterset_configuration.proofs.PlatformLists.{◌⊕◌, Tail, after_comma, append_none, append_one, closes_read, ended, exprs_of_append, goes_on, no_comma, sign_same}
use Rattle.filterset_configuration.proofs.PlatformPhrases.{all_phrase, any_phrase, gives_along, not_phrase}
use Rattle.filterset_configuration.proofs.{PlatformRows.expr_of_all, PlatformRows.expr_of_any, PlatformWords.rest_along}
use Rattle.filterset_json.specs.Shape.{Text}
use Rattle.filterset_configuration.proofs.platforms.parsing.+parser.Goals as goal

pub read_all-returns-in_err-expressions-clause-only : goal.read_all-returns-in_err-expressions-clause-only
read_all-returns-in_err-expressions-clause-only t c = λ e r g.
    let p = all_phrase e c.args.text.now r g in
    gives_error expr_of c.from_residual.result c.in_err-expressions.field-0.0 e r c.from_residual.ensures.1 (c.in_err-expressions.ensures.only p.0 p.2 r p.3 p.4)

pub read_all-returns-clause-read : goal.read_all-returns-clause-read
read_all-returns-clause-read t c =
    let P : Expr → Type 0 = λ x. GoesOn x (codes "all") c.args.text.now c.in_ok-expressions.rest.now in
    let read = c.in_ok-expressions.ensures.read in
    subst P (sym (expr_of_all c.in_ok-expressions.expressions)) (refl, read.0, read.1, read.2)

pub read_all-returns-clause-only : goal.read_all-returns-clause-only
read_all-returns-clause-only t c = λ e r g.
    let p = all_phrase e c.args.text.now r g in
    let only = c.in_ok-expressions.ensures.only p.0 p.2 r p.3 p.4 in
    (expr_of_all c.in_ok-expressions.expressions ∙ ap all only.0 ∙ sym p.1, only.1)

pub read_any-returns-in_err-expressions-clause-only : goal.read_any-returns-in_err-expressions-clause-only
read_any-returns-in_err-expressions-clause-only t c = λ e r g.
    let p = any_phrase e c.args.text.now r g in
    gives_error expr_of c.from_residual.result c.in_err-expressions.field-0.0 e r c.from_residual.ensures.1 (c.in_err-expressions.ensures.only p.0 p.2 r p.3 p.4)

pub read_any-returns-clause-read : goal.read_any-returns-clause-read
read_any-returns-clause-read t c =
    let P : Expr → Type 0 = λ x. GoesOn x (codes "any") c.args.text.now c.in_ok-expressions.rest.now in
    let read = c.in_ok-expressions.ensures.read in
    subst P (sym (expr_of_any c.in_ok-expressions.expressions)) (refl, read.0, read.1, read.2)

pub read_any-returns-clause-only : goal.read_any-returns-clause-only
read_any-returns-clause-only t c = λ e r g.
    let p = any_phrase e c.args.text.now r g in
    let only = c.in_ok-expressions.ensures.only p.0 p.2 r p.3 p.4 in
    (expr_of_any c.in_ok-expressions.expressions ∙ ap any only.0 ∙ sym p.1, only.1)

pub read_expression-returns-in-all-clause-place : goal.read_expression-returns-in-all-clause-place
read_expression-returns-in-all-clause-place t c = placed_along c.args.text.now c.in-Some.rest.now _ c.in-Some.ensures.place c.read_all.ensures.place

pub read_expression-returns-in-any-clause-place : goal.read_expression-returns-in-any-clause-place
read_expression-returns-in-any-clause-place t c = placed_along c.args.text.now c.in-Some.rest.now _ c.in-Some.ensures.place c.read_any.ensures.place

pub read_expression-returns-in-not-clause-place : goal.read_expression-returns-in-not-clause-place
read_expression-returns-in-not-clause-place t c = placed_along c.args.text.now c.in-Some.rest.now _ c.in-Some.ensures.place c.read_not.ensures.place

pub read_expression-returns-in_default-word-clause-place : goal.read_expression-returns-in_default-word-clause-place
read_expression-returns-in_default-word-clause-place t c = placed_along c.args.text.now c.in-Some.rest.now _ c.in-Some.ensures.place c.read_setting.ensures.place

pub read_list-returns-clause-place : goal.read_list-returns-clause-place
read_list-returns-clause-place t c = placed_along c.args.text.now c.in-Some.inside.now _ c.in-Some.ensures.place c.read_inside.ensures.place

pub read_not-returns-in_default-clause-only : goal.read_not-returns-in_default-clause-only
read_not-returns-in_default-clause-only t c = λ e r g.
    let p = not_phrase e c.args.text.now r g in
    absurd (c.in_default.ensures.found p.2 p.4)

pub read_not-returns-in_err-operand-clause-only : goal.read_not-returns-in_err-operand-clause-only
read_not-returns-in_err-operand-clause-only t c = λ e r g.
    let p = not_phrase e c.args.text.now r g in
    let at : p.2 ≡ c.in-Some.inside.now = sign_same 40 c.args.text.now p.4 c.in-Some.ensures.found in
    let Q : Text → Type 0 = λ x. Expression p.0 x p.3 in
    gives_error expr_of c.from_residual.result c.in_err-operand.field-0.0 e r c.from_residual.ensures.1 (c.in_err-operand.ensures.only p.0 p.3 (subst Q at p.5))

pub read_not-returns-in_err-operand-clause-place : goal.read_not-returns-in_err-operand-clause-place
read_not-returns-in_err-operand-clause-place t c =
    placed_error c.args.text.now c.from_residual.result c.in_err-operand.field-0.0 c.from_residual.ensures.1
    (true_along c.args.text.now c.in-Some.inside.now c.in_err-operand.field-0.0 c.in-Some.ensures.place c.in_err-operand.ensures.place)

pub read_not-returns-in_default-after-clause-only : goal.read_not-returns-in_default-after-clause-only
read_not-returns-in_default-after-clause-only t c = λ e r g.
    let p = not_phrase e c.args.text.now r g in
    let Q : Text → Type 0 = λ x. Expression p.0 x p.3 in
    let same = c.in_ok-operand.ensures.only p.0 p.3 (subst Q (sign_same 40 c.args.text.now p.4 c.in-Some.ensures.found) p.5) in
    let R : Text → Type 0 = λ x. Sign 41 x r in
    absurd (c.in_default-after.ensures.found r (subst R (sym same.1) p.6))

pub read_not-returns-in_default-after-clause-place : goal.read_not-returns-in_default-after-clause-place
read_not-returns-in_default-after-clause-place t c =
    true_along c.args.text.now c.in_ok-operand.behind.now _ (rest_along c.args.text.now c.in-Some.inside.now c.in_ok-operand.behind.now c.in-Some.ensures.place c.in_ok-operand.ensures.place) c.expect-in_default-after.ensures

pub read_not-returns-clause-only : goal.read_not-returns-clause-only
read_not-returns-clause-only t c = λ e r g.
    let p = not_phrase e c.args.text.now r g in
    let Q : Text → Type 0 = λ x. Expression p.0 x p.3 in
    let same = c.in_ok-operand.ensures.only p.0 p.3 (subst Q (sign_same 40 c.args.text.now p.4 c.in-Some.ensures.found) p.5) in
    let R : Text → Type 0 = λ x. Sign 41 x r in
    (c.in_ok-negate.ensures ∙ ap negated same.0 ∙ sym p.1, sign_same 41 c.in_ok-operand.behind.now c.in-Some-after.ensures.found (subst R (sym same.1) p.6))

pub read_not-returns-clause-place : goal.read_not-returns-clause-place
read_not-returns-clause-place t c =
    rest_along c.args.text.now c.in-Some.inside.now c.in-Some-after.rest.now c.in-Some.ensures.place
    (rest_along c.in-Some.inside.now c.in_ok-operand.behind.now c.in-Some-after.rest.now c.in_ok-operand.ensures.place c.in-Some-after.ensures.place)

pub read_inside-returns-in-Some-clause-read : goal.read_inside-returns-in-Some-clause-read
read_inside-returns-in-Some-clause-read t c =
    let P : Exprs → Type 0 = λ x. Inside x c.args.text.now c.in-Some.end.now in
    let read = subst P (append_none (exprs_of c.loop-end.expressions.items)) (c.loop-end.invariant.onward none c.in-Some.end.now c.in-Some.ensures.found) in
    rw c.in-Some.end-is read

pub read_inside-returns-in-Some-clause-only : goal.read_inside-returns-in-Some-clause-only
read_inside-returns-in-Some-clause-only t c = λ es r inside.
    let items = exprs_of c.loop-end.expressions.items in
    let found = c.loop-end.invariant.only es r inside in
    let last = ended found.0 c.loop-end.rest.now c.in-Some.end.now r c.in-Some.ensures.found found.2 in
    let end = last.1 in
    let same = c.in-Some.end-is in
    (sym (append_none items) ∙ ap (λ x. items ⊕ x) (sym last.0) ∙ sym found.1, cc)

pub read_inside-returns-in-Some-clause-place : goal.read_inside-returns-in-Some-clause-place
read_inside-returns-in-Some-clause-place t c =
    let rest = rest_along c.args.text.now c.loop-end.rest.now c.in-Some.end.now c.loop-end.invariant.place c.in-Some.ensures.place in
    let whole = rest.1 in
    let same = c.in-Some.end-is in
    (rest.0, cc)

pub read_inside-returns-in_err-expression-clause-only : goal.read_inside-returns-in_err-expression-clause-only
read_inside-returns-in_err-expression-clause-only t c = λ es r inside.
    let found = c.loop-end.invariant.only es r inside in
    let next = goes_on found.0 c.loop-end.rest.now r c.in_default.ensures.found found.2 in
    gives_error (λ (v : Vec CfgExpr Global). exprs_of v.items) c.from_residual.result c.in_err-expression.field-0.0 es r c.from_residual.ensures.1
    (c.in_err-expression.ensures.only next.0 next.2 next.4)

pub read_inside-returns-in_err-expression-clause-place : goal.read_inside-returns-in_err-expression-clause-place
read_inside-returns-in_err-expression-clause-place t c =
    placed_error c.args.text.now c.from_residual.result c.in_err-expression.field-0.0 c.from_residual.ensures.1
    (true_along c.args.text.now c.loop-end.rest.now c.in_err-expression.field-0.0 c.loop-end.invariant.place c.in_err-expression.ensures.place)

pub read_inside-returns-in_default-after-clause-read : goal.read_inside-returns-in_default-after-clause-read
read_inside-returns-in_default-after-clause-read t c =
    let items = c.loop-end.expressions.items in
    let x = c.in_ok-expression.expression in
    let behind = c.in_ok-expression.behind.now in
    let grown : exprs_of c.push.new.self.items ≡ exprs_of items ⊕ more (expr_of x) none = ap exprs_of c.in_ok-push.ensures.items ∙ exprs_of_append items x in
    let Q : Text → Exprs → Type 0 = λ r y. Inside y c.args.text.now r in
    closes_read c.args.text.now behind (exprs_of c.push.new.self.items) _
    (λ r sign. subst (Q r) (sym grown) (c.loop-end.invariant.onward (more (expr_of x) none) r (behind, c.in_ok-expression.ensures.read, inl (refl, sign))))
    c.close_list.ensures.read

pub read_inside-returns-in_default-after-clause-only : goal.read_inside-returns-in_default-after-clause-only
read_inside-returns-in_default-after-clause-only t c = λ es r inside.
    let items = c.loop-end.expressions.items in
    let x = c.in_ok-expression.expression in
    let found = c.loop-end.invariant.only es r inside in
    let next = goes_on found.0 c.loop-end.rest.now r c.in_default.ensures.found found.2 in
    let same = c.in_ok-expression.ensures.only next.0 next.2 next.4 in
    let P : Text → Type 0 = λ y. Tail next.1 y r in
    let last = no_comma next.1 c.in_ok-expression.behind.now r c.in_default-after.ensures.found (subst P (sym same.1) next.5) in
    let one : more (expr_of x) none ≡ found.0 = (λ i. more (same.0 i) (sym last.0 i)) ∙ sym next.3 in
    let whole : exprs_of c.push.new.self.items ≡ es = (ap exprs_of c.in_ok-push.ensures.items ∙ exprs_of_append items x) ∙ ap (λ y. exprs_of items ⊕ y) one ∙ sym found.1 in
    gives_along (λ (v : Vec CfgExpr Global). exprs_of v.items) c.close_list.result whole refl (c.close_list.ensures.only r last.1)

pub read_inside-returns-in_default-after-clause-place : goal.read_inside-returns-in_default-after-clause-place
read_inside-returns-in_default-after-clause-place t c =
    placed_along c.args.text.now c.in_ok-expression.behind.now _
    (rest_along c.args.text.now c.loop-end.rest.now c.in_ok-expression.behind.now c.loop-end.invariant.place c.in_ok-expression.ensures.place)
    c.close_list.ensures.place

pub read_inside-loop-end-preserved : goal.read_inside-loop-end-preserved
read_inside-loop-end-preserved t c =
    let inv = c.loop-end.invariant in
    let items = c.loop-end.expressions.items in
    let x = c.in_ok-expression.expression in
    let behind = c.in_ok-expression.behind.now in
    let next = c.in-Some-after.next.now in
    let joined : (es : Exprs) → exprs_of c.push.new.self.items ⊕ es ≡ exprs_of items ⊕ more (expr_of x) es =
    λ es. ap (λ y. y ⊕ es) (ap exprs_of c.in_ok-push.ensures.items ∙ exprs_of_append items x) ∙ append_one (exprs_of items) (expr_of x) es in
    record {
      utf8 = search rules;
      onward = λ es r inside.
          let P : Exprs → Type 0 = λ y. Inside y c.args.text.now r in
          subst P (sym (joined es)) (inv.onward (more (expr_of x) es) r (behind, c.in_ok-expression.ensures.read, inr (next, c.in-Some-after.ensures.found, inside)));
      only = λ es r inside.
          let found = inv.only es r inside in
          let first = goes_on found.0 c.loop-end.rest.now r c.in_default.ensures.found found.2 in
          let same = c.in_ok-expression.ensures.only first.0 first.2 first.4 in
          let P : Text → Type 0 = λ y. Tail first.1 y r in
          let left = after_comma first.1 behind next r c.in-Some-after.ensures.found (subst P (sym same.1) first.5) in
          let one : found.0 ≡ more (expr_of x) first.1 = first.3 ∙ ap (λ y. more y first.1) (sym same.0) in
          (first.1, found.1 ∙ ap (λ y. exprs_of items ⊕ y) one ∙ sym (joined first.1), left);
      place = rest_along c.args.text.now c.loop-end.rest.now next inv.place
          (rest_along c.loop-end.rest.now behind next c.in_ok-expression.ensures.place c.in-Some-after.ensures.place);
      shorter = search rules;
    }
