use Rattle.std.proofs.Common.{arith, ◌≡◌, ◌∙◌, ◌++◌, ◌∷◌, [], ap, length, string_bytes}
use Rattle.std.proofs.lemmas.List.{length_push}
use Rattle.filterset_deciding.proofs.packages.make_longer.Goals as goal

pub loop-at-preserved : goal.loop-at-preserved
loop-at-preserved c =
    let old = string_bytes c.loop-at.repr in
    let e : string_bytes c.push.new.self ≡ old ++ 120 ∷ [] = c.in_ok-push.ensures.bytes ∙ ap (λ z. old ++ z) (c.in_ok-push.ensures.ascii (omega arith)) in
    omega (arith, ap length e, length_push old 120)

pub returns : goal.returns
returns c =
    let old = string_bytes c.loop-at.repr in
    let e : string_bytes c.push-2.new.self ≡ old ++ 120 ∷ [] = c.in_ok-push-2.ensures.bytes ∙ ap (λ z. old ++ z) (c.in_ok-push-2.ensures.ascii (omega arith)) in
    omega (arith, ap length e, length_push old 120, ap length c.new.ensures)
