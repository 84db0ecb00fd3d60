use Rattle.std.proofs.Common.{rules, ◌≡◌, ◌<◌, length, refl, ap, sym, ◌∙◌, arith}
use Rattle.std.specs.Prelude.{Some, slice_get}
use Rattle.std.proofs.lemmas.Grind.{common_steps}
use Rattle.std.proofs.lemmas.Option.{slice_get_within, slice_get-get_or, same_Some, gets}
use Rattle.filterset_graph.specs.{Walks.IsMarked, declared.package.PackageMetadata.PackageMetadata}
use Rattle.nextest_filtering.specs.PackageMarks.{IsMarkedMemberAt}
use Rattle.nextest_filtering.proofs.PackageSets.{none_given, one_pushed, passed_over, all_given, collected}
use Rattle.nextest_filtering.proofs.compile.packages.collect_marked.Goals.{then-marks-index+then-package+in_ok-try_clone+in_ok-push, else-marks-index, else-marks-index-via-then-marks-index+else-package, else-marks-index-via-else-marks-index}
use Rattle.nextest_filtering.proofs.compile.packages.collect_marked.Goals as goal

pub loop-index-init : goal.loop-index-init
loop-index-init c = none_given (IsMarkedMemberAt c.args.packages.now c.args.marks.now) c.new-ids.result.items c.new-ids.ensures.items

pub loop-index-preserved : goal.loop-index-preserved
loop-index-preserved c =
    let packages = c.args.packages.now in
    let marks = c.args.marks.now in
    let n = c.loop-index.index in
    let p = c.index-packages-index.result in
    let gives = IsMarkedMemberAt packages marks in
    let at : slice_get packages n ≡ Some p = slice_get-get_or packages n p c.loop-index-test.true ∙ ap (λ (q : PackageMetadata). Some q) (sym c.index-packages-index.is) in
    elim c.if-marks-index.branch [
      | then-marks-index+then-package+in_ok-try_clone+in_ok-push w ↦
          let marked : IsMarked marks n = grind (arith, common_steps, gets) in
          rw w.ids-is (one_pushed gives c.loop-index.ids.items n c.loop-index.invariant _ p.id (rw (← w.in_ok-try_clone.ensures) w.in_ok-push.ensures.items)
          (p, at, marked, w.if-package.true, refl)
          (λ id is. ap (λ (q : PackageMetadata). q.id) (same_Some p is.0 (sym at ∙ is.1)) ∙ is.4))
      | else-marks-index w ↦
          rw w.ids-is (passed_over gives c.loop-index.ids.items n c.loop-index.invariant (λ id is.
          elim w.else-marks-index.branch [
            | else-marks-index-via-then-marks-index+else-package v ↦ (let same : p ≡ is.0 = same_Some p is.0 (sym at ∙ is.1) in let h = ap (λ (q : PackageMetadata). q.in_workspace) same ∙ is.3 in cc)
            | else-marks-index-via-else-marks-index v ↦ (let marked = is.2 in grind (arith, common_steps, gets))
          ]))
    ]

pub returns : goal.returns
returns c id =
    let all = all_given (IsMarkedMemberAt c.args.packages.now c.args.marks.now) c.loop-index.ids.items c.loop-index.index c.loop-index.invariant
    (λ k id is. let within : k < length c.args.packages.now = slice_get_within c.args.packages.now k is.0 is.1 in omega (arith, within, c.loop-index-test.false)) id in
    let made = collected c.loop-index.ids.items c.in_ok-collect.field-0 (search rules) id in
    ((λ has. all.0 (made.0 has)), (λ is. made.1 (all.1 is)))
