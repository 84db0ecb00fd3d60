use Rattle.std.proofs.Common.{arith, ◌≡◌, [], length, refl, sym, ap, subst}
use Rattle.std.proofs.lemmas.Bool.Decides.{nat_tests}
use Rattle.filterset_configuration.specs.{PlatformTrees.expr_of, PlatformGrammar.Sign}
use Rattle.filterset_configuration.proofs.PlatformFaults.{returns_error, true_along}
use Rattle.filterset_configuration.proofs.{PlatformLists.sign_same, PlatformWords.rest_along}
use Rattle.filterset_json.specs.Shape.{Text}
use Rattle.filterset_configuration.proofs.platforms.specification.read_whole.Goals as goal

pub returns-in_err-expression-clause-only : goal.returns-in_err-expression-clause-only
returns-in_err-expression-clause-only c = λ e whole.
    returns_error expr_of c.from_residual.result c.in_err-expression.field-0.0 e c.from_residual.ensures.1 (c.in_err-expression.ensures.only e whole.0 whole.1)

pub returns-in_default-clause-only : goal.returns-in_default-clause-only
returns-in_default-clause-only c = λ e whole.
    let P : Text → Type 0 = λ x. Sign 41 x [] in
    absurd (c.in_default.ensures.found [] (subst P (sym (c.in_ok-expression.ensures.only e whole.0 whole.1).1) whole.2))

pub returns-in_default-clause-place : goal.returns-in_default-clause-place
returns-in_default-clause-place c = true_along c.args.text.now c.in_ok-expression.behind.now _ c.in_ok-expression.ensures.place c.expect.ensures

pub returns-then-is_empty-clause-only : goal.returns-then-is_empty-clause-only
returns-then-is_empty-clause-only c = λ e whole. (c.in_ok-expression.ensures.only e whole.0 whole.1).0

pub returns-clause-only : goal.returns-clause-only
returns-clause-only c = λ e whole.
    let P : Text → Type 0 = λ x. Sign 41 x [] in
    let none = ap length (sign_same 41 c.in_ok-expression.behind.now c.in-Some.ensures.found (subst P (sym (c.in_ok-expression.ensures.only e whole.0 whole.1).1) whole.2)) in
    let told = c.is_empty.ensures in
    grind (arith, nat_tests)

pub returns-clause-place : goal.returns-clause-place
returns-clause-place c =
    let rest = c.in-Some.rest.now in (
      rest,
      rest_along c.args.text.now c.in_ok-expression.behind.now rest c.in_ok-expression.ensures.place c.in-Some.ensures.place,
      refl,
      λ e.
          let none = ap length e in
          let told = c.is_empty.ensures in
          grind (arith, nat_tests),
    )
