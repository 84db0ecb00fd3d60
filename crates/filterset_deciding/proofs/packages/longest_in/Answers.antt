use Rattle.std.proofs.Common.{rules, arith, ◌≡◌, ◌<◌, length, get_or, max, take}
use Rattle.std.proofs.lemmas.List.{take_all}
use Rattle.filterset_deciding.specs.PackageSets.{IsWithin}
use Rattle.filterset_deciding.proofs.{Agreeing.each_taken, Agreeing.within_more, Doubts.each_weaker}
use Rattle.filterset_deciding.proofs.packages.longest_in.Goals as goal

pub loop-placed-preserved : goal.loop-placed-preserved
loop-placed-preserved c =
    let branch = c.args.branch.now in
    let i = c.loop-placed.placed-index in
    let p = c.placed-item.result in
    let old = c.loop-placed.longest in
    let new = c.max-longest.result in
    let most : new ≡ max old c.longest_at.result = search rules in
    let lt : i < length branch = omega (arith, c.loop-placed-test.true) in
    let at : get_or branch i p ≡ p = search (rules, c.placed-item.is) in
    each_taken (IsWithin new) branch i p lt at
    (each_weaker (IsWithin old) (IsWithin new) (take i branch) (λ q is. within_more old new q (omega (arith, most)) is) c.loop-placed.invariant)
    (within_more c.longest_at.result new p (omega (arith, most)) c.longest_at.ensures)

pub returns : goal.returns
returns c = rw (take_all c.loop-placed.placed-index c.args.branch.now c.loop-placed-test.false) at c.loop-placed.invariant
