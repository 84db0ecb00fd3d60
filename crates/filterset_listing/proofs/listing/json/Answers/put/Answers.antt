use Rattle.std.proofs.Common.{refl, sym, true}
use Rattle.std.proofs.lemmas.{List.take_all, Map.Text.btree_map_updates_str}
use Rattle.filterset_listing.specs.Listing.{tests_of, unknown_of}
use Rattle.filterset_listing.specs.declared.groups.TestAnswer.TheVariants.{Known, Unknown}
use Rattle.filterset_listing.specs.declared.listing.json.TestMark.TheVariants.{Asked, Uncounted}
use Rattle.filterset_listing.proofs.MarkingLemmas.{picked_one, uncounted_one, unknown_one}
use Rattle.filterset_listing.proofs.listing.json.Answers.put.Goals as goal

pub loop-picked-preserved : goal.loop-picked-preserved
loop-picked-preserved c beyond before =
    let tests = c.deref-picked-items.result.now in
    let i = c.loop-picked.picked-index in
    let test = c.picked-item.result in
    let updates = btree_map_updates_str c.as_str.result.now c.loop-picked.self.0 c.insert.new.self _ c.in_ok-insert.ensures.updates in
    picked_one i c.as_str.result.now (Asked (Known true)) c.loop-picked.self.0 c.insert.new.self updates beyond tests test c.loop-picked-test.true (sym c.picked-item.is) c.as_str.ensures refl (c.loop-picked.invariant beyond before)

pub loop-unknown-init : goal.loop-unknown-init
loop-unknown-init c beyond before =
    let are = c.loop-picked.invariant beyond before in
    rw (take_all c.loop-picked.picked-index c.deref-picked-items.result.now c.loop-picked-test.false, c.deref-picked-items.ensures.value) at are

pub loop-unknown-preserved : goal.loop-unknown-preserved
loop-unknown-preserved c beyond before =
    let tests = c.deref-unknown-items.result.now in
    let i = c.loop-unknown.unknown-index in
    let test = c.unknown-item.result in
    let key = c.as_str-in-loop-unknown in
    let updates = btree_map_updates_str key.result.now c.loop-unknown.self.0 c.insert-in-loop-unknown.new.self _ c.in_ok-insert-2.ensures.updates in
    unknown_one i key.result.now (Asked (Unknown test.path)) c.loop-unknown.self.0 c.insert-in-loop-unknown.new.self updates beyond (tests_of c.args.picks.now) tests test c.loop-unknown-test.true (sym c.unknown-item.is) key.ensures refl
    (c.loop-unknown.invariant beyond before)

pub loop-uncounted-init : goal.loop-uncounted-init
loop-uncounted-init c beyond before =
    let are = c.loop-unknown.invariant beyond before in
    rw (take_all c.loop-unknown.unknown-index c.deref-unknown-items.result.now c.loop-unknown-test.false, c.deref-unknown-items.ensures.value) at are

pub loop-uncounted-preserved : goal.loop-uncounted-preserved
loop-uncounted-preserved c beyond before =
    let picks = c.args.picks.now in
    let tests = picks.binary.uncounted.now in
    let i = c.loop-uncounted.uncounted-index in
    let test = c.uncounted-item.result in
    let key = c.as_str-in-loop-uncounted in
    let updates = btree_map_updates_str key.result.now c.loop-uncounted.self.0 c.insert-in-loop-uncounted.new.self _ c.in_ok-insert-3.ensures.updates in
    uncounted_one i key.result.now Uncounted c.loop-uncounted.self.0 c.insert-in-loop-uncounted.new.self updates beyond (tests_of picks) (unknown_of picks) tests test c.loop-uncounted-test.true (sym c.uncounted-item.is) key.ensures refl
    (c.loop-uncounted.invariant beyond before)

pub returns : goal.returns
returns c beyond before =
    let are = c.loop-uncounted.invariant beyond before in
    rw (take_all c.loop-uncounted.uncounted-index c.args.picks.now.binary.uncounted.now c.loop-uncounted-test.false) at are
