use Rattle.std.proofs.Common.{rules, ◌≡◌, ◌<◌, Bor, length, refl, sym, ◌∙◌, ap, subst, true, arith}
use Rattle.std.specs.Prelude.{Some, slice_get, string_bytes}
use Rattle.std.proofs.lemmas.Option.{slice_get_within, slice_get-get_or, same_Some}
use Rattle.filterset_graph.specs.declared.package.PackageMetadata.{PackageMetadata}
use Rattle.filterset_matchers.specs.{Matcher.Matcher, Matcher.MatchesName, Matchers.matcher_of}
use Rattle.nextest_filtering.specs.PackageMarks.{IsMatchAt}
use Rattle.nextest_filtering.proofs.PackageSets.{none_given, one_pushed, passed_over, all_given, collected}
use Rattle.nextest_filtering.proofs.compile.packages.select_among.Goals.{then-branch+in_ok-try_clone+in_ok-push, else-branch}
use Rattle.nextest_filtering.proofs.compile.packages.select_among.Goals as goal

pub loop-package-init : goal.loop-package-init
loop-package-init c =
    (c.in_ok-ready.ensures, none_given (IsMatchAt c.args.packages.now (matcher_of c.args.matcher.now)) c.new-ids.result.items c.new-ids.ensures.items)

pub loop-package-preserved : goal.loop-package-preserved
loop-package-preserved c =
    let packages = c.args.packages.now in
    let matcher = matcher_of c.args.matcher.now in
    let n = c.loop-package.package-index in
    let p = c.package-item.result in
    let gives = IsMatchAt packages matcher in
    let at : slice_get packages n ≡ Some p = slice_get-get_or packages n p c.loop-package-test.true ∙ ap (λ (q : Bor PackageMetadata). Some q) (sym c.package-item.is) in
    let so_far = c.loop-package.invariant.1 in (
      c.matches.ensures.same ∙ c.loop-package.invariant.0,
      elim c.if-branch.branch [
        | then-branch+in_ok-try_clone+in_ok-push w ↦
            let matched = subst (MatchesName matcher) c.name.ensures (subst (λ (m : Matcher). MatchesName m c.name.result.now) c.loop-package.invariant.0 (c.in_ok-matches.ensures.matches.0 w.if-branch.true)) in
            rw w.ids-is (one_pushed gives c.loop-package.ids.items n so_far _ p.now.id (rw (← w.in_ok-try_clone.ensures) w.in_ok-push.ensures.items)
            (p, at, matched, refl) (λ id is. ap (λ (q : Bor PackageMetadata). q.now.id) (same_Some p is.0 (sym at ∙ is.1)) ∙ is.3))
        | else-branch w ↦
            rw w.ids-is (passed_over gives c.loop-package.ids.items n so_far (λ id is.
            let same : p ≡ is.0 = same_Some p is.0 (sym at ∙ is.1) in
            let matched = subst (λ (q : Bor PackageMetadata). MatchesName matcher (string_bytes q.now.name)) (sym same) is.2 in
            let h : c.in_ok-matches.field-0 ≡ true = c.in_ok-matches.ensures.matches.1 (subst (λ (m : Matcher). MatchesName m c.name.result.now) (sym c.loop-package.invariant.0) (subst (MatchesName matcher) (sym c.name.ensures) matched)) in
            let e = w.if-branch.false in cc))
      ],
    )

pub returns : goal.returns
returns c id =
    let packages = c.args.packages.now in
    let all = all_given (IsMatchAt packages (matcher_of c.args.matcher.now)) c.loop-package.ids.items c.loop-package.package-index c.loop-package.invariant.1
    (λ k id is. let within : k < length packages = slice_get_within packages k is.0 is.1 in omega (arith, within, c.loop-package-test.false)) id in
    let made = collected c.loop-package.ids.items c.in_ok-collect.field-0 (search rules) id in
    ((λ has. all.0 (made.0 has)), (λ is. made.1 (all.1 is)))
