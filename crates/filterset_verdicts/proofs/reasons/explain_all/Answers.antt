use Rattle.std.proofs.Common.{rules, arith, ◌≡◌, ◌<◌, ◌+◌, ◌∙◌, Global, String, [], ◌∷◌, ◌++◌, length, get_or, string_bytes, take, ap}
use Rattle.std.proofs.lemmas.{List.take_more, Slice.Zip.all_zipped_more}
use Rattle.filterset_expression.specs.Contexts.{default_of}
use Rattle.nextest_filtering.specs.declared.filterset.Filterset.{Filterset}
use Rattle.filterset_verdicts.specs.Reasons.{IsReasonOf}
use Rattle.filterset_verdicts.proofs.reasons.explain_all.Goals as goal

pub loop-filterset-preserved : goal.loop-filterset-preserved
loop-filterset-preserved c =
    let filtersets = c.args.filtersets.now in
    let i = c.loop-filterset.filterset-index in
    let filterset = c.filterset-item.result in
    let R : Filterset → String Global → Type 0 = λ f text. IsReasonOf c.args.graph.now (default_of c.args.context.now) c.args.query.now c.args.group.now f (string_bytes text) in
    let lt : i < length filtersets = omega (arith, c.loop-filterset-test.true) in
    let at : get_or filtersets i filterset ≡ filterset = search (rules, c.filterset-item.is) in
    let more : take (i + 1) filtersets ≡ take i filtersets ++ filterset ∷ [] = take_more filtersets i filterset lt ∙ ap (λ z. take i filtersets ++ z ∷ []) at in
    rw (more, c.in_ok-push.ensures.items)
    (all_zipped_more R (take i filtersets) c.loop-filterset.texts.items filterset c.in_ok-explain_in.field-0 c.loop-filterset.invariant c.in_ok-explain_in.ensures)
