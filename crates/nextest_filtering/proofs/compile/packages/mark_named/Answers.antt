use Rattle.std.proofs.Common.{rules, ◌≡◌, ◌<◌, ◌↔◌, ◌+◌, ℕ, Bool, true, List, [], length, length-append, sym, ◌∙◌, ap, subst, arith}
use Rattle.std.specs.Prelude.{Some, Contains, IsTrue, slice_get}
use Rattle.std.proofs.lemmas.Option.{slice_get_within, slice_get-get_or}
use Rattle.filterset_expression.proofs.PackageIds.{found_exactly}
use Rattle.filterset_expression.specs.Meaning.{IsPackage}
use Rattle.filterset_graph.specs.Packages.{AllDiffer, ids}
use Rattle.filterset_graph.specs.{Walks.IsMarked, declared.package.PackageMetadata.PackageMetadata}
use Rattle.filterset_matchers.specs.Matchers.{matcher_of}
use Rattle.nextest_filtering.specs.{Compiling.packages_of, PackageMarks.IsNamedAt, PackageMarks.MarksNamed}
use Rattle.nextest_filtering.proofs.PackageSets.{marked_one_more, named_by_id}
use Rattle.nextest_filtering.proofs.compile.packages.mark_named.Goals as goal

pub loop-package-init : goal.loop-package-init
loop-package-init c =
    let none = c.in_ok-marks.ensures.items in
    record {
      counted = ap (λ (marks : List Bool). length marks) none;
      marked = λ k. (
        (λ is. absurd (let within : k < 0 = slice_get_within [] k true (subst (λ (marks : List Bool). IsMarked marks k) none is) in omega (arith, within))),
        (λ is. absurd (omega (arith, is.0))),
      );
    }

pub loop-package-preserved : goal.loop-package-preserved
loop-package-preserved c =
    let packages = c.packages-packages.result.now in
    let matcher = matcher_of c.args.matcher.now in
    let n = c.loop-package.package-index in
    let p = c.package-item.result in
    let before = c.loop-package.invariant in
    let list : packages ≡ packages_of c.args.cx.now = c.packages-packages.ensures.list ∙ c.graph.ensures in
    let at : slice_get packages n ≡ Some p = slice_get-get_or packages n p c.loop-package-test.true ∙ ap (λ (q : PackageMetadata). Some q) (sym c.package-item.is) in
    let differ = subst (λ (ps : List PackageMetadata). AllDiffer (ids ps)) (sym c.packages-packages.ensures.list) c.packages-packages.ensures.distinct in
    let by_id = named_by_id packages matcher differ n p at in
    let are = c.in_ok-named.ensures p.id in
    let has : IsTrue c.contains.result ↔ Contains c.in_ok-named.named.keys p.id = rw c.contains.ensures (found_exactly p.id c.in_ok-named.named.keys) in
    let here : IsTrue c.contains.result ↔ IsNamedAt packages matcher n = (
      (λ yes. by_id.0 (subst (λ (ps : List PackageMetadata). IsPackage ps matcher p.id) (sym list) (are.0 (has.0 yes)))),
      (λ is. has.1 (are.1 (subst (λ (ps : List PackageMetadata). IsPackage ps matcher p.id) list (by_id.1 is)))),
    ) in
    record {
      counted = rw c.in_ok-push.ensures.items (length-append c.loop-package.marks.items _ ∙ ap (λ (size : ℕ). size + 1) before.counted);
      marked = rw c.in_ok-push.ensures.items (marked_one_more packages matcher c.loop-package.marks.items n c.contains.result before.counted before.marked here);
    }

pub returns-clause-len : goal.returns-clause-len
returns-clause-len c =
    let list : c.packages-packages.result.now ≡ packages_of c.args.cx.now = c.packages-packages.ensures.list ∙ c.graph.ensures in
    let end : c.loop-package.package-index ≡ length c.packages-packages.result.now = omega (arith, c.loop-package-test.false, c.loop-package.auto.package-index-end) in
    let counted : length c.loop-package.marks.items ≡ length (packages_of c.args.cx.now) = c.loop-package.invariant.counted ∙ end ∙ ap length list in
    search rules

pub returns-clause-marks : goal.returns-clause-marks
returns-clause-marks c =
    let packages = c.packages-packages.result.now in
    let matcher = matcher_of c.args.matcher.now in
    let marked = c.loop-package.invariant.marked in
    let list : packages ≡ packages_of c.args.cx.now = c.packages-packages.ensures.list ∙ c.graph.ensures in
    subst (λ (ps : List PackageMetadata). MarksNamed ps matcher c.loop-package.marks.items) list (λ k. (
      (λ is. ((marked k).0 is).1),
      (λ is. (marked k).1 (let within : k < length packages = slice_get_within packages k is.0 is.1 in omega (arith, within, c.loop-package-test.false), is)),
    ))
