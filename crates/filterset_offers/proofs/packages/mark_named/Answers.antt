use Rattle.std.proofs.Common.{◌≡◌, ◌<◌, ℕ, ◌+◌, Bool, true, List, [], length, length-append, refl, rules, sym, ◌∙◌, ap, subst, arith}
use Rattle.std.specs.Prelude.{Some, IsTrue, slice_get, string_bytes}
use Rattle.std.proofs.lemmas.{Option.slice_get_within, Option.slice_get-get_or, Option.same_Some, Bool.false≢true}
use Rattle.filterset_graph.specs.{Walks.IsMarked, declared.package.PackageMetadata.PackageMetadata}
use Rattle.filterset_matchers.specs.{Matcher.Matcher, Matcher.MatchesName, Matchers.matcher_of}
use Rattle.filterset_offers.specs.ReadyMatchers.{ready_matcher}
use Rattle.filterset_offers.proofs.packages.mark_named.Goals.{then-package+in_ok-is_named, else-package}
use Rattle.nextest_filtering.specs.PackageMarks.{IsNamedAt}
use Rattle.nextest_filtering.proofs.PackageSets.{marked_one_more}
use Rattle.filterset_offers.proofs.packages.mark_named.Goals as goal

pub loop-package-init : goal.loop-package-init
loop-package-init c =
    let packages = c.args.packages.now in
    let matcher = matcher_of c.args.matcher.now in
    let none = c.in_ok-marks.ensures.items in (
      c.in_ok-ready.ensures,
      ap (λ (marks : List Bool). length marks) none,
      λ k. ((λ marked. absurd (let within : k < 0 = slice_get_within [] k true (subst (λ (marks : List Bool). IsMarked marks k) none marked) in omega (arith, within))), (λ is. absurd (omega (arith, is.0)))),
    )

pub loop-package-preserved : goal.loop-package-preserved
loop-package-preserved c =
    let packages = c.args.packages.now in
    let matcher = matcher_of c.args.matcher.now in
    let n = c.loop-package.package-index in
    let p = c.package-item.result in
    let so_far = c.loop-package.invariant in
    let at : slice_get packages n ≡ Some p = slice_get-get_or packages n p c.loop-package-test.true ∙ ap (λ (q : PackageMetadata). Some q) (sym c.package-item.is) in
    let here : (IsTrue c.if-package.is_named → IsNamedAt packages matcher n) × (IsNamedAt packages matcher n → IsTrue c.if-package.is_named) =
    elim c.if-package.branch [
      | then-package+in_ok-is_named w ↦ (
        (λ yes. (p, at, w.if-package.true, subst (MatchesName matcher) w.name.ensures (subst (λ (m : Matcher). MatchesName m w.name.result.now) so_far.0 (w.in_ok-is_named.ensures.matches.0 (sym w.is_named-is ∙ yes))))),
        (λ is. let same : p ≡ is.0 = same_Some p is.0 (sym at ∙ is.1) in
            w.is_named-is ∙ w.in_ok-is_named.ensures.matches.1 (subst (λ (m : Matcher). MatchesName m w.name.result.now) (sym so_far.0) (subst (MatchesName matcher) (sym w.name.ensures) (subst (λ (q : PackageMetadata). MatchesName matcher (string_bytes q.name)) (sym same) is.3)))),
      )
      | else-package w ↦ (
        (λ yes. absurd (false≢true (sym w.if-package.false ∙ sym w.is_named-is ∙ yes))),
        (λ is. absurd (let same : p ≡ is.0 = same_Some p is.0 (sym at ∙ is.1) in let h = ap (λ (q : PackageMetadata). q.in_workspace) same ∙ is.2 in false≢true (sym w.if-package.false ∙ h))),
      )
    ] in
    let same : ready_matcher c.if-package.ready ≡ ready_matcher c.loop-package.ready = elim c.if-package.branch [
      | then-package+in_ok-is_named w ↦ rw w.ready-is w.matches.ensures.same
      | else-package w ↦ rw w.ready-is refl
    ] in (
      same ∙ so_far.0,
      rw c.in_ok-push.ensures.items (length-append c.loop-package.marks.items _ ∙ ap (λ (size : ℕ). size + 1) so_far.1),
      rw c.in_ok-push.ensures.items (marked_one_more packages matcher c.loop-package.marks.items n c.if-package.is_named so_far.1 so_far.2 here),
    )

pub returns-clause-len : goal.returns-clause-len
returns-clause-len c = let end : c.loop-package.package-index ≡ length c.args.packages.now = omega (arith, c.loop-package-test.false, c.loop-package.auto.package-index-end) in search rules

pub returns-clause-marks : goal.returns-clause-marks
returns-clause-marks c = λ k. (
  (λ marked. ((c.loop-package.invariant.2 k).0 marked).1),
  (λ is. (c.loop-package.invariant.2 k).1
      (let within : k < length c.args.packages.now = slice_get_within c.args.packages.now k is.0 is.1 in omega (arith, within, c.loop-package-test.false), is)),
)
