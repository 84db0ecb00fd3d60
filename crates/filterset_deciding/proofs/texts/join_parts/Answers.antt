use Rattle.std.proofs.Common.{rules, arith, ◌≡◌, ◌<◌, ◌∙◌, length, get_or, sym, ap, string_bytes, ◌++◌, ◌∷◌, []}
use Rattle.std.proofs.lemmas.List.{take_all}
use Rattle.filterset_deciding.specs.Texts.{part_of}
use Rattle.filterset_deciding.proofs.Parts.{flat_map_more}
use Rattle.filterset_deciding.proofs.texts.join_parts.Goals as goal

pub loop-demand-preserved : goal.loop-demand-preserved
loop-demand-preserved c =
    let demands = c.args.demands.now in
    let i = c.loop-demand.demand-index in
    let d = c.demand-item.result in
    let lt : i < length demands = omega (arith, c.loop-demand-test.true) in
    let at : get_or demands i d ≡ d = search (rules, c.demand-item.is) in
    c.in_ok-push_part.ensures ∙ ap (λ z. z ++ part_of c.args.c d) c.loop-demand.invariant ∙ sym (flat_map_more (part_of c.args.c) demands i d lt at)

pub returns : goal.returns
returns c =
    c.in_ok-push.ensures.bytes ∙ ap (λ z. string_bytes c.loop-demand.text ++ z) (c.in_ok-push.ensures.ascii c.requires)
    ∙ ap (λ z. z ++ c.args.c ∷ []) (rw (take_all c.loop-demand.demand-index c.args.demands.now c.loop-demand-test.false) at c.loop-demand.invariant)
