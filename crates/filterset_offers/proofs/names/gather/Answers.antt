use Rattle.std.proofs.Common.{◌∙◌, Bor, Global, Vec, ap, inl, inr}
use Rattle.std.proofs.lemmas.List.{take_all}
use Rattle.filterset_display.specs.Positions.{Text}
use Rattle.filterset_offers.proofs.GatherLemmas.{gathers-next, gathers-none}
use Rattle.filterset_offers.proofs.names.gather.Goals as goal
use Rattle.filterset_offers.proofs.names.gather.Goals.{then-is_wanted+in_ok-push, else-is_wanted}

pub loop-name-init : goal.loop-name-init
loop-name-init c = rw c.new-found.ensures.items (gathers-none c.args.typed.now)

pub loop-name-preserved : goal.loop-name-preserved
loop-name-preserved c =
    gathers-next c.args.names.now c.loop-name.name-index _ c.args.typed.now c.loop-name.found.items c.if-is_wanted.found.items c.is_wanted.result
    (rw c.as_slice.ensures.value at c.is_wanted.ensures) c.loop-name-test.true c.loop-name.invariant
    (elim c.if-is_wanted.branch [
      | then-is_wanted+in_ok-push w ↦ inl (w.if-is_wanted.true, ap (λ (v : Vec (Bor Text) Global). v.items) w.found-is ∙ w.in_ok-push.ensures.items)
      | else-is_wanted w ↦ inr (w.if-is_wanted.false, ap (λ (v : Vec (Bor Text) Global). v.items) w.found-is)
    ])

pub returns : goal.returns
returns c =
    let are = c.loop-name.invariant in
    rw (take_all c.loop-name.name-index c.args.names.now c.loop-name-test.false) at are
