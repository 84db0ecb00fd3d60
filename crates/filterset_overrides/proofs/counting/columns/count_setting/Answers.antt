use Rattle.std.proofs.Common.{rules, ◌≡◌, ◌++◌, ◌∷◌, [], Bool, List, Option, Some, false, length, replicate, take, subst, sym, ap, ◌∙◌}
use Rattle.filterset_overrides.specs.Applied.{AreTaken, IsApplied, overrides_of}
use Rattle.filterset_overrides.specs.{Counting.EachAfter, Counting.IsGiven, declared.asked.AskedOverride.AskedOverride}
use Rattle.filterset_overrides.specs.declared.counting.applied.AppliedOverride.{AppliedOverride}
use Rattle.filterset_overrides.proofs.{GivingLemmas.none_taken, ListLemmas.EachAfter-push, ListLemmas.map_more}
use Rattle.filterset_overrides.proofs.counting.columns.count_setting.Goals as goal

pub loop-one-init : goal.loop-one-init
loop-one-init c packages default tests long applied =
    let same : c.in_ok-taken.taken.items ≡ replicate c.args.test_count (Some false) = c.in_ok-taken.ensures.items_if_clones_equal (λ y is. search rules) in
    let whole : replicate (length tests) (Some false) ≡ c.in_ok-taken.taken.items = ap (λ n. replicate n (Some false)) long ∙ sym same in
    (rw c.in_ok-given.ensures.items tt, subst (λ (taken : List (Option Bool)). AreTaken packages default tests c.args.key.now [] taken) whole (none_taken packages default tests c.args.key.now))

pub loop-one-preserved : goal.loop-one-preserved
loop-one-preserved c packages default tests long applied =
    let all = c.args.applied.now in
    let key = c.args.key.now in
    let i = c.loop-one.one-index in
    let one = c.one-item.result in
    let so_far = overrides_of (take i all) in
    let is = subst (IsApplied packages default tests) (sym c.one-item.is) (applied i one c.loop-one-test.true) in
    let before = c.loop-one.invariant packages default tests long applied in
    let here = c.in_ok-count_given.ensures packages default tests so_far is before.1 in
    let more = sym (map_more (λ (a : AppliedOverride). a.asked) all i one c.loop-one-test.true (sym c.one-item.is)) in
    let each = EachAfter-push (IsGiven packages default tests key) [] so_far c.loop-one.given.items one.asked c.in_ok-count_given.field-0 before.0 here.0 in (
      rw c.in_ok-push.ensures.items (subst (λ (os : List AskedOverride). EachAfter (IsGiven packages default tests key) [] os (c.loop-one.given.items ++ c.in_ok-count_given.field-0 ∷ [])) more each),
      subst (λ (os : List AskedOverride). AreTaken packages default tests key os c.count_given.new.taken.items) more here.1,
    )
