use Rattle.std.proofs.Common.{rules, arith, ◌≡◌, ◌<◌, ◌+◌, ◌∙◌, [], ◌∷◌, ◌++◌, length, get_or, take, ap}
use Rattle.std.specs.Borrow.{Bor}
use Rattle.std.proofs.lemmas.{List.take_more, Slice.Zip.all_zipped_more}
use Rattle.filterset_expression.specs.{Contexts.default_of, FlatExpressions.IsFlat}
use Rattle.filterset_expression.specs.declared.{expression.CompiledExpr.CompiledExpr, flat.FlatExpr.FlatExpr}
use Rattle.filterset_deciding.proofs.witness.lay_out.Goals as goal

pub loop-expr-preserved : goal.loop-expr-preserved
loop-expr-preserved c =
    let exprs = c.args.exprs.now in
    let i = c.loop-expr.expr-index in
    let expr = c.expr-item.result in
    let R : Bor CompiledExpr → FlatExpr → Type 0 = λ e flat. IsFlat flat e.now (default_of c.args.cx.now) in
    let lt : i < length exprs = omega (arith, c.loop-expr-test.true) in
    let at : get_or exprs i expr ≡ expr = search (rules, c.expr-item.is) in
    let more : take (i + 1) exprs ≡ take i exprs ++ expr ∷ [] = take_more exprs i expr lt ∙ ap (λ z. take i exprs ++ z ∷ []) at in
    rw (more, c.in_ok-push.ensures.items)
    (all_zipped_more R (take i exprs) c.loop-expr.flats.items expr c.in_ok-new.field-0 c.loop-expr.invariant c.in_ok-new.ensures.flat)
