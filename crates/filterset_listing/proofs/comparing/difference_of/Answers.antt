use Rattle.std.proofs.Common.{rules, ◌≡◌, ◌++◌, ◌∙◌, ap, get_or, refl, subst, sym, take}
use Rattle.std.proofs.lemmas.List.{take_all}
use Rattle.filterset_listing.specs.{Comparing.is_of, Comparing.tests_in, Groups.known_of, Listing.one_of}
use Rattle.filterset_listing.specs.{Overrides.AreTold, Pickers.Answers, Pickers.expr_picker}
use Rattle.filterset_listing.proofs.{DividesLemmas.Divides-push, GroupLemmas.says_of, ListingLemmas.one_more}
use Rattle.filterset_listing.proofs.PickerLemmas.{expr_answers}
use Rattle.filterset_listing.proofs.comparing.difference_of.Goals as goal

pub returns : goal.returns
returns c one other default given is_one is_other laid =
    let kept = c.loop-test.invariant in
    let query = c.args.binary.now.query in
    let first = c.in_ok-first_answer in
    let second = c.in_ok-second_answer in
    let tests = kept.3 one other default given is_one is_other laid in (
      kept.0,
      subst (Answers (expr_picker default given one) query) (sym kept.1)
          (expr_answers default given one query first.first_answer (first.ensures.definite one default is_one) (first.ensures.undecided one default is_one)),
      subst (Answers (expr_picker default given other) query) (sym kept.2)
          (expr_answers default given other query second.second_answer (second.ensures.definite other default is_other) (second.ensures.undecided other default is_other)),
      rw (take_all c.loop-test.test-index c.args.binary.now.tests.now c.loop-test-test.false) at tests,
    )

pub loop-test-preserved : goal.loop-test-preserved
loop-test-preserved c =
    let tests = c.args.binary.now.tests.now in
    let i = c.loop-test.test-index in
    let test = c.test-item.result in
    let binary = c.args.binary.now.query in
    let kept = c.loop-test.invariant in
    let push = c.in_ok-push.ensures in
    let at : get_or tests i test ≡ test = search (rules, c.test-item.is) in (
      push.binary ∙ kept.0,
      push.first_answer ∙ kept.1,
      push.second_answer ∙ kept.2,
      λ one other default given is_one is_other laid.
          let told = subst (AreTold default given binary) (sym c.deref.ensures.value) (c.in_ok-rows.ensures default given laid) in
          let told-2 = subst (AreTold default given binary) (sym c.deref-in-loop-test.ensures.value) (c.in_ok-rows.ensures default given laid) in
          rw (one_more tests i test c.loop-test-test.true at)
          (Divides-push _ _ (take i tests) test _ _ c.in_ok-by_first.by_first c.in_ok-by_second.by_second (kept.3 one other default given is_one is_other laid)
          (says_of default one given _ binary test _ refl refl (c.in_ok-by_first.ensures one default given is_one told))
          (says_of default other given _ binary test _ refl refl (c.in_ok-by_second.ensures other default given is_other told-2))
          (λ part. push.parts part ∙ ap (λ answer. tests_in part c.loop-test.difference ++ one_of (is_of part answer c.known-in-loop-test.result) test) c.known.ensures
          ∙ ap (λ answer. tests_in part c.loop-test.difference ++ one_of (is_of part (known_of c.in_ok-by_first.by_first) answer) test) c.known-in-loop-test.ensures)),
    )
