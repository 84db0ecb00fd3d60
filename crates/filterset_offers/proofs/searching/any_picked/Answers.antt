use Rattle.std.proofs.Common.{◌≡◌, ◌↔◌, ◌∙◌, Bool, List, false, string_bytes, subst, sym, true}
use Rattle.std.specs.Prelude.{Any, IsTrue}
use Rattle.std.proofs.lemmas.{Bool.false≢true, List.Elements.All-more}
use Rattle.filterset_graph.specs.declared.package.PackageMetadata.{PackageMetadata}
use Rattle.filterset_matchers.specs.{Matcher.Matcher, Matcher.MatchesName, Matchers.matcher_of}
use Rattle.filterset_offers.specs.{Matched.PicksPackage, Something.IsMemberNamed, declared.packages.Reach.Reach}
use Rattle.filterset_offers.proofs.{AnyLemmas.found, AnyLemmas.not_found, SomethingLemmas.picks_some}
use Rattle.filterset_offers.proofs.searching.any_picked.Goals as goal

-- a package is meant where one is named
meant : (listed packages : List PackageMetadata) (matcher : Matcher) (any : Bool) → listed ≡ packages → IsTrue any ↔ Any (IsMemberNamed matcher) listed
    → (reach : Reach) → IsTrue any ↔ Any (PicksPackage packages reach matcher) packages
meant listed packages matcher any same is reach =
    let named = subst (λ (ps : List PackageMetadata). IsTrue any ↔ Any (IsMemberNamed matcher) ps) same is in
    let picks = picks_some packages matcher reach in
    ((λ yes. picks.0 (named.0 yes)), (λ some. named.1 (picks.1 some)))

pub loop-package-preserved-then-not-package : goal.loop-package-preserved-then-not-package
loop-package-preserved-then-not-package c =
    let p = c.package-item.result in
    let Missed : PackageMetadata → Type 0 = λ q. ¬ IsMemberNamed (matcher_of c.args.matcher.now) q in
    let missed : Missed p = λ is. false≢true (sym c.if-not-package.true ∙ is.0) in (
      c.loop-package.invariant.0,
      All-more Missed c.packages-package-items.result.now c.loop-package.package-index p c.loop-package-test.true c.loop-package.invariant.1 (subst Missed c.package-item.is missed),
    )

pub loop-package-preserved : goal.loop-package-preserved
loop-package-preserved c =
    let p = c.package-item.result in
    let same = c.loop-package.invariant.0 in
    let says : IsTrue c.in_ok-matches.field-0 ↔ MatchesName (matcher_of c.args.matcher.now) (string_bytes p.name) = rw (same, c.name.ensures) at c.in_ok-matches.ensures.matches in
    let Missed : PackageMetadata → Type 0 = λ q. ¬ IsMemberNamed (matcher_of c.args.matcher.now) q in
    let missed : Missed p = λ is. false≢true (sym c.if-branch.false ∙ says.1 is.1) in (
      c.in_ok-matches.ensures.same ∙ same,
      All-more Missed c.packages-package-items.result.now c.loop-package.package-index p c.loop-package-test.true c.loop-package.invariant.1 (subst Missed c.package-item.is missed),
    )

pub returns-then-branch : goal.returns-then-branch
returns-then-branch c =
    let matcher = matcher_of c.args.matcher.now in
    let p = c.package-item.result in
    let listed = c.packages-package-items.result.now in
    let says : IsTrue c.in_ok-matches.field-0 ↔ MatchesName matcher (string_bytes p.name) = rw (c.loop-package.invariant.0, c.name.ensures) at c.in_ok-matches.ensures.matches in
    meant listed c.args.graph.now matcher true c.packages-package-items.ensures.list
    (found (IsMemberNamed matcher) listed c.loop-package.package-index p c.loop-package-test.true (sym c.package-item.is) (c.if-not-package.false, says.0 c.if-branch.true))

pub returns : goal.returns
returns c =
    let matcher = matcher_of c.args.matcher.now in
    let listed = c.packages-package-items.result.now in
    meant listed c.args.graph.now matcher false c.packages-package-items.ensures.list
    (not_found (IsMemberNamed matcher) listed c.loop-package.package-index c.loop-package-test.false c.loop-package.invariant.1)
