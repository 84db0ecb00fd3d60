use Rattle.std.proofs.{Common.rules, Common.◌≡◌, Common.get_or, lemmas.List.take_all}
use Rattle.filterset_texts.specs.Parts.{Fits}
use Rattle.filterset_texts.proofs.{Cuts.in_turn_nothing, Sequences.fits_pushed}
use Rattle.filterset_texts.proofs.joining.append_copies.Goals as goal

pub loop-part-preserved : goal.loop-part-preserved
loop-part-preserved c =
    let parts = c.args.parts.now in
    let i = c.loop-part.part-index in
    let one = c.part-item.result in
    let at : get_or parts i one ≡ one = search (rules, c.part-item.is) in
    rw c.in_ok-push.ensures.items
    (fits_pushed c.args.sequence.now.items c.loop-part.sequence.items parts i one c.in_ok-copy_part.field-0 c.loop-part-test.true at c.in_ok-copy_part.ensures c.loop-part.invariant)

pub returns : goal.returns
returns c = rw (take_all c.loop-part.part-index c.args.parts.now c.loop-part-test.false) at c.loop-part.invariant
