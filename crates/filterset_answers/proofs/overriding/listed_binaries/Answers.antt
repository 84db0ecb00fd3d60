use Rattle.std.proofs.Common.{rules, arith, ◌≡◌, ◌<◌, length, get_or, refl, take}
use Rattle.std.proofs.lemmas.List.{take_all}
use Rattle.filterset_answers.specs.Overriding.{IsListed}
use Rattle.filterset_entries.proofs.RowsLemmas.{AllZip-push, one_more}
use Rattle.filterset_answers.proofs.overriding.listed_binaries.Goals as goal

pub returns : goal.returns
returns c =
    let listed = c.loop-picks.invariant in
    rw (take_all c.loop-picks.picks-index c.args.all.now c.loop-picks-test.false) at listed

pub loop-picks-preserved : goal.loop-picks-preserved
loop-picks-preserved c =
    let all = c.args.all.now in
    let i = c.loop-picks.picks-index in
    let picks = c.picks-item.result in
    let lt : i < length all = omega (arith, c.loop-picks-test.true) in
    let at : get_or all i picks ≡ picks = search (rules, c.picks-item.is) in
    rw (c.in_ok-push.ensures.items, one_more all i picks lt at) (AllZip-push IsListed (take i all) _ picks _ c.loop-picks.invariant (refl, c.as_slice.ensures.value))
