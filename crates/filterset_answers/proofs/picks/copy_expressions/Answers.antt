use Rattle.std.proofs.Common.{arith, ◌≡◌, ◌+◌, ◌<◌, ◌++◌, ◌∷◌, [], ◌∙◌, ap, get_or, length, map, refl, sym, take}
use Rattle.std.proofs.lemmas.List.{map-append, take_all, take_more}
use Rattle.filterset_expression.specs.Expression.{formula}
use Rattle.filterset_answers.specs.Picking.{compiled_of}
use Rattle.filterset_answers.proofs.picks.copy_expressions.Goals as goal

pub loop-filterset-preserved : goal.loop-filterset-preserved
loop-filterset-preserved c =
    let filtersets = c.args.filtersets.now in
    let i = c.loop-filterset.filterset-index in
    let one = c.filterset-item.result in
    let front = take i filtersets in
    let lt : i < length filtersets = omega (arith, c.loop-filterset-test.true) in
    let at : get_or filtersets i one ≡ one = sym c.filterset-item.is in
    let more : take (i + 1) filtersets ≡ front ++ one ∷ [] = take_more filtersets i one lt ∙ ap (λ y. front ++ y ∷ []) at in
    rw (
      c.in_ok-push.ensures.items,
      map-append formula c.loop-filterset.exprs.items (c.in_ok-try_clone.field-0 ∷ []),
      more,
      map-append compiled_of front (one ∷ []),
      map-append formula (map compiled_of front) (compiled_of one ∷ []),
      c.loop-filterset.invariant,
      c.in_ok-try_clone.ensures,
    ) refl

pub returns : goal.returns
returns c = rw (take_all c.loop-filterset.filterset-index c.args.filtersets.now c.loop-filterset-test.false) at c.loop-filterset.invariant
