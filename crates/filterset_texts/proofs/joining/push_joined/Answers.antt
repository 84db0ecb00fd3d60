use Rattle.std.proofs.Common.{rules, arith, ◌≡◌, [], ap, get_or, length, sym}
use Rattle.std.proofs.lemmas.List.{take_all, take_more, length_push}
use Rattle.filterset_texts.specs.Parts.{Fits}
use Rattle.filterset_texts.proofs.Sequences.{begun_more, begun_none, fits_copied}
use Rattle.filterset_texts.proofs.joining.push_joined.Goals as goal

pub loop-back-preserved : goal.loop-back-preserved
loop-back-preserved c =
    let others = c.in-Some.others.now in
    let i = c.loop-back.back-index in
    let back = c.back-item.result in
    let one = c.append_copies-in-loop-back.new.sequence in
    let at : get_or others i back ≡ back = search (rules, c.back-item.is) in
    let front = rw (c.new-sequence.ensures.items, c.deref.ensures.value) at c.in_ok-append_copies.ensures in
    let own = fits_copied c.append_copies.new.sequence.items one.items c.args.front.items back.items front (rw c.deref-in-loop-back.ensures.value at c.in_ok-append_copies-2.ensures) in
    rw (c.in_ok-push.ensures.items, take_more others i back c.loop-back-test.true, at) record {
      matched = begun_more c.args.joined.now.items c.loop-back.joined.items _ (Fits c.args.front.items) one back own c.loop-back.invariant.matched;
      count = omega (arith, length_push c.loop-back.joined.items one, c.loop-back.invariant.count);
    }

pub returns-clause-matched : goal.returns-clause-matched
returns-clause-matched c =
    let others = c.in-Some.others.now in
    let old = c.args.joined.now.items in
    let F = Fits c.args.front.items in
    let own = rw c.deref-2.ensures.value at c.in_ok-append_copies-3.ensures in
    let so_far = rw (take_all c.loop-back.back-index others c.loop-back-test.false) at c.loop-back.invariant.matched in
    rw (c.in_ok-push-2.ensures.items, c.in-Some.ensures.cases.0) (begun_more old c.loop-back.joined.items others F c.append_copies-2.new.sequence c.in-Some.last.now own so_far)
