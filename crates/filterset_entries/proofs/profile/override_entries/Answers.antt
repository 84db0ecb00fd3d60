use Rattle.std.proofs.Common.{rules, arith, ◌≡◌, ◌<◌, length, get_or, take}
use Rattle.std.proofs.lemmas.List.{take_all}
use Rattle.filterset_entries.specs.Profile.{IsEntryOf}
use Rattle.filterset_entries.proofs.RowsLemmas.{AllZip-push, one_more}
use Rattle.filterset_entries.proofs.profile.override_entries.Goals as goal

pub returns : goal.returns
returns c =
    let all = c.loop-one.invariant in
    rw (take_all c.loop-one.one-index c.args.ranked.now c.loop-one-test.false) at all

pub loop-one-preserved : goal.loop-one-preserved
loop-one-preserved c =
    let ranked = c.args.ranked.now in
    let i = c.loop-one.one-index in
    let one = c.one-item.result in
    let lt : i < length ranked = omega (arith, c.loop-one-test.true) in
    let at : get_or ranked i one ≡ one = search (rules, c.one-item.is) in
    rw (c.in_ok-push.ensures.items, one_more ranked i one lt at) (AllZip-push (IsEntryOf c.args.configured) (take i ranked) _ one _ c.loop-one.invariant c.in_ok-override_entry.ensures)
