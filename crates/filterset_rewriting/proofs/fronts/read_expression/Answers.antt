use Rattle.std.proofs.Common.{◌≡◌, ◌∷◌, [], IsCharBoundary, ap, subst, sym, ◌∙◌}
use Rattle.std.proofs.lemmas.Bool.{false≢true}
use Rattle.filterset_faults.specs.{Span.offset_of, declared.error.ParseSingleError.TheVariants.ExpectedEndOfExpression}
use Rattle.filterset_rewriting.proofs.FrontLemmas.{nothing_in_front}
use Rattle.filterset_rewriting.proofs.fronts.read_expression.Goals as goal

pub returns-in_default-only_end-clause-found : goal.returns-in_default-only_end-clause-found
returns-in_default-only_end-clause-found c =
    let p = c.in_ok-tree.field-0 in
    nothing_in_front c.args.text.now p c.in_ok-tree.ensures.clean c.in_ok-tree.ensures.spelled c.in_ok-tree.ensures.stand
    (λ s e bound. let same : c.as_slice.result.now ≡ ExpectedEndOfExpression s ∷ [] = cc in c.in_default-only_end.ensures s same)

pub returns-in_default-split_at_checked-clause-found : goal.returns-in_default-split_at_checked-clause-found
returns-in_default-split_at_checked-clause-found c =
    let p = c.in_ok-tree.field-0 in
    let text = c.args.text.now in
    nothing_in_front text p c.in_ok-tree.ensures.clean c.in_ok-tree.ensures.spelled c.in_ok-tree.ensures.stand
    (λ s e bound. let same : c.as_slice.result.now ≡ ExpectedEndOfExpression s ∷ [] = cc in
    let span : c.in-Some-only_end.span ≡ s = let h = c.in-Some-only_end.ensures in cc in
    let at : offset_of s ≡ c.offset.result = sym (c.offset.ensures ∙ ap offset_of span) in
    false≢true (c.in_default-split_at_checked.ensures.variant.1 (subst (λ n. IsCharBoundary text n) at bound)))
