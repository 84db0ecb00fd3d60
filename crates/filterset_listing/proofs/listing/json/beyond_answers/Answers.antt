use Rattle.std.proofs.Common.{refl, sym}
use Rattle.std.proofs.lemmas.{List.append-nil, List.take_all, Map.Text.btree_map_updates_str}
use Rattle.filterset_listing.specs.{Listing.tests_of, declared.listing.json.TestMark.TheVariants.Beyond}
use Rattle.filterset_listing.proofs.MarkingLemmas.{beyond_one, first_none, first_one, no_answers}
use Rattle.filterset_listing.proofs.listing.json.beyond_answers.Goals as goal

pub loop-test-init : goal.loop-test-init
loop-test-init c = no_answers c.new-answers.result c.new-answers.ensures.empty

pub loop-test-preserved : goal.loop-test-preserved
loop-test-preserved c =
    let tests = c.deref-test-items.result.now in
    let i = c.loop-test.test-index in
    let test = c.test-item.result in
    let updates = btree_map_updates_str c.as_str.result.now c.loop-test.answers c.insert.new.self _ c.in_ok-insert.ensures.updates in
    beyond_one i c.as_str.result.now Beyond c.loop-test.answers c.insert.new.self updates tests test c.loop-test-test.true (sym c.test-item.is) c.as_str.ensures refl c.loop-test.invariant

pub returns-in_default : goal.returns-in_default
returns-in_default c = rw (first_none c.args.beyond.now c.in_default.len_below) (no_answers c.new-answers.result c.new-answers.ensures.empty)

pub returns : goal.returns
returns c =
    let picks = c.picks-item.result in
    let are = rw (take_all c.loop-test.test-index c.deref-test-items.result.now c.loop-test-test.false, c.deref-test-items.ensures.value) at c.loop-test.invariant in
    rw (first_one c.args.beyond.now picks c.in-len1-up.len_at_least c.picks-item.is, append-nil (tests_of picks)) are
