use Rattle.std.proofs.{Common.arith, Common.◌<◌, Common.[], Common.length, Common.subst, lemmas.List.take_more}
use Rattle.filterset_expression.specs.{FlatExpressions.IsFlat, declared.expression.CompiledExpr.CompiledExpr}
use Rattle.filterset_c.specs.{Answers.IsTestNumber, declared.queries.Test.Test}
use Rattle.filterset_c.proofs.Numbers.{AllZip-more, number_of_steps}
use Rattle.filterset_c.proofs.matching.numbers_by_steps.Goals as goal

pub loop-test-preserved : goal.loop-test-preserved
loop-test-preserved c binary about =
    let xs = c.args.tests.now in
    let i = c.loop-test.test-index in
    let none : Test = record { name = record { ref_ptr = (0, 0); now = [] }; group = record { ref_ptr = (0, 0); now = [] } } in
    let lt : i < length xs = omega (arith, c.loop-test-test.true) in
    let bound = c.args.bound.now in
    let flat = c.in_ok-flat.flat in
    let is_flat = subst (λ (default : CompiledExpr). IsFlat flat bound.filterset.compiled default) c.eval_context.ensures c.in_ok-flat.ensures.flat in
    rw (c.in_ok-push.ensures.items, take_more xs i none lt) (AllZip-more (IsTestNumber bound binary) _ _ _ _ (c.loop-test.invariant binary about)
    (number_of_steps bound flat binary c.args.binary_query.now _ _ is_flat about c.in_ok-flat_number.ensures))

pub flat_number-requires-clause-well : goal.flat_number-requires-clause-well
flat_number-requires-clause-well c =
    let none : Test = record { name = record { ref_ptr = (0, 0); now = [] }; group = record { ref_ptr = (0, 0); now = [] } } in
    c.requires c.loop-test.test-index none (omega (arith, c.loop-test-test.true))
