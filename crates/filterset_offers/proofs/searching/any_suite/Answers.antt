use Rattle.std.proofs.{Common.◌∙◌, Common.subst, Common.sym, lemmas.Bool.false≢true, lemmas.List.Elements.All-more}
use Rattle.filterset_matchers.specs.{Matcher.Matcher, Matcher.MatchesName, Matchers.matcher_of}
use Rattle.filterset_sources.specs.declared.list.Suite.{Suite}
use Rattle.filterset_offers.specs.Matched.{PicksSuite}
use Rattle.filterset_offers.proofs.AnyLemmas.{found, not_found}
use Rattle.filterset_offers.proofs.searching.any_suite.Goals as goal

pub loop-suite-preserved : goal.loop-suite-preserved
loop-suite-preserved c =
    let matcher = matcher_of c.args.matcher.now in
    let suites = c.args.suites.now in
    let suite = c.suite-item.result in
    let same = c.loop-suite.invariant.0 in
    let missed : ¬ PicksSuite c.args.compared matcher suite = λ is.
    false≢true (sym c.if-branch.false ∙ c.in_ok-matches.ensures.matches.1 (subst (λ (m : Matcher). MatchesName m c.compared_text.result.now) (sym same) (subst (MatchesName matcher) (sym c.compared_text.ensures) is))) in
    let Missed : Suite → Type 0 = λ s. ¬ PicksSuite c.args.compared matcher s in (
      c.matches.ensures.same ∙ same,
      All-more Missed suites c.loop-suite.suite-index suite c.loop-suite-test.true c.loop-suite.invariant.1 (subst Missed c.suite-item.is missed),
    )

pub returns-then-branch : goal.returns-then-branch
returns-then-branch c =
    let matcher = matcher_of c.args.matcher.now in
    found (PicksSuite c.args.compared matcher) c.args.suites.now c.loop-suite.suite-index c.suite-item.result c.loop-suite-test.true (sym c.suite-item.is)
    (subst (MatchesName matcher) c.compared_text.ensures (subst (λ (m : Matcher). MatchesName m c.compared_text.result.now) c.loop-suite.invariant.0 (c.in_ok-matches.ensures.matches.0 c.if-branch.true)))

pub returns : goal.returns
returns c =
    not_found (PicksSuite c.args.compared (matcher_of c.args.matcher.now)) c.args.suites.now c.loop-suite.suite-index c.loop-suite-test.false c.loop-suite.invariant.1
