use Rattle.std.proofs.Common.{arith, false, ◌≡◌, ◌++◌, ◌∷◌, [], List, length, take, refl, subst, sym, ◌∙◌}
use Rattle.std.specs.{List.count_by, Option.is_none, Option.unwrap_or}
use Rattle.std.proofs.lemmas.List.{length-map, length-take-le}
use Rattle.filterset_overrides.specs.{Applied.IsApplied, Applied.overrides_of, Counting.EachAfter, Counting.IsRow}
use Rattle.filterset_overrides.specs.declared.{asked.AskedOverride.AskedOverride, counting.OverrideRow.OverrideRow}
use Rattle.filterset_overrides.specs.declared.counting.applied.AppliedOverride.{AppliedOverride}
use Rattle.filterset_overrides.proofs.ListLemmas.{EachAfter-push, map_more}
use Rattle.filterset_overrides.proofs.counting.rows_of.Goals as goal

pub loop-at-preserved : goal.loop-at-preserved
loop-at-preserved c packages default tests applied =
    let all = c.args.applied.now in
    let i = c.loop-at.at in
    let one = c.index-applied-at.result in
    let f = λ (a : AppliedOverride). a.asked in
    let so_far = overrides_of (take i all) in
    let answers = one.answers.items in
    let unknown : c.count_answers.result.unknown ≡ count_by is_none answers = rw c.as_slice.ensures.value at c.count_answers.ensures.unknown in
    let row : OverrideRow = record { at = i; path = one.asked.path; tests = c.count_answers.result; picks_all = one.picks_all } in
    let is = subst (IsApplied packages default tests) (sym c.index-applied-at.is) (applied i one c.loop-at-test.true) in
    let long : i ≡ length so_far = sym (length-map (take i all) f ∙ length-take-le i all (omega (arith, c.loop-at-test.true))) in
    let each = EachAfter-push (IsRow packages default tests) [] so_far c.loop-at.rows.items one.asked row
    (c.loop-at.invariant packages default tests applied) (long, refl, (answers, is.0, rw c.as_slice.ensures.value at c.count_answers.ensures.sure, unknown), is.1) in
    rw c.in_ok-push.ensures.items (subst (λ (os : List AskedOverride). EachAfter (IsRow packages default tests) [] os (c.loop-at.rows.items ++ row ∷ [])) (sym (map_more f all i one c.loop-at-test.true (sym c.index-applied-at.is))) each)
