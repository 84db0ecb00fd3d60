use Rattle.std.proofs.Common.{◌≡◌, ◌∙◌, false, get_or, refl, subst, sym, take}
use Rattle.std.proofs.lemmas.List.{take_all}
use Rattle.filterset_listing.specs.{Asking.ExprPicks, Groups.Says, Listing.no_tests, Overrides.AreTold}
use Rattle.filterset_listing.proofs.GroupLemmas.{says_of}
use Rattle.filterset_listing.proofs.ListingLemmas.{Picked-push, can_pick, cannot_pick, is_no_alone, none_picked, one_more}
use Rattle.filterset_listing.proofs.listing.picks_of.Goals as goal

pub returns-then-picks : goal.returns-then-picks
returns-then-picks c expr default given flat laid =
    let binary = c.args.binary.now.query in
    let told = c.in_ok-told in
    let no = (is_no_alone told.told).0 (sym c.is_no.ensures ∙ c.if-picks.true) in
    let definite = (told.ensures.definite expr default flat false).0 no in
    (refl, rw c.if-picks.true (rw c.new.ensures.items refl, rw c.new-2.ensures.items refl, cannot_pick expr default binary definite, none_picked expr default given binary definite))

pub loop-test-init : goal.loop-test-init
loop-test-init c = (refl, refl, λ expr default given flat laid. rw (c.new.ensures.items, c.new-2.ensures.items) no_tests)

pub loop-test-preserved : goal.loop-test-preserved
loop-test-preserved c =
    let tests = c.args.binary.now.tests.now in
    let i = c.loop-test.test-index in
    let test = c.test-item.result in
    let binary = c.args.binary.now.query in
    let kept = c.loop-test.invariant in
    let push = c.in_ok-push.ensures in
    let at : get_or tests i test ≡ test = sym c.test-item.is in (
      push.binary ∙ kept.0,
      push.is_left_out ∙ kept.1,
      λ expr default given flat laid.
          let told = subst (AreTold default given binary) (sym c.deref.ensures.value) (c.in_ok-rows.ensures default given laid) in
          let says = says_of default expr given _ binary test c.in_ok-answer.answer refl refl (c.in_ok-answer.ensures expr default given flat told) in
          rw (push.tests, push.unknown, one_more tests i test c.loop-test-test.true at)
          (Picked-push (Says default given (ExprPicks default expr) binary) (take i tests) test _ _ c.in_ok-answer.answer (kept.2 expr default given flat laid) says),
    )

pub returns : goal.returns
returns c expr default given flat laid =
    let kept = c.loop-test.invariant in
    let told = c.in_ok-told in
    let can = can_pick expr default c.args.binary.now.query told.told (told.ensures.definite expr default flat) (told.ensures.undecided expr default flat) (sym c.is_no.ensures ∙ c.if-picks.false) in
    let are = kept.2 expr default given flat laid in
    let picked = rw (take_all c.loop-test.test-index c.args.binary.now.tests.now c.loop-test-test.false) at are in
    (kept.0, rw (kept.1, c.if-picks.false) (can, picked))
