use Rattle.std.proofs.Common.{rules, arith, ◌≡◌, ◌<◌, ◌+◌, ◌∙◌, [], ◌∷◌, ◌++◌, length, get_or, take, ap}
use Rattle.std.proofs.lemmas.{List.take_more, Slice.Zip.all_zipped_more}
use Rattle.filterset_deciding.specs.AnyTest.{IsPickOf}
use Rattle.filterset_deciding.proofs.witness.pick_all.Goals as goal

pub loop-flat-preserved : goal.loop-flat-preserved
loop-flat-preserved c =
    let flats = c.args.flats.now in
    let i = c.loop-flat.flat-index in
    let flat = c.flat-item.result in
    let lt : i < length flats = omega (arith, c.loop-flat-test.true) in
    let at : get_or flats i flat ≡ flat = search (rules, c.flat-item.is) in
    let more : take (i + 1) flats ≡ take i flats ++ flat ∷ [] = take_more flats i flat lt ∙ ap (λ z. take i flats ++ z ∷ []) at in
    rw (more, c.in_ok-push.ensures.items)
    (all_zipped_more (IsPickOf c.args.query.now c.args.lookup.now.group.now) (take i flats) c.loop-flat.all.items flat c.in_ok-picks.field-0 c.loop-flat.invariant c.in_ok-picks.ensures)
