use Rattle.std.proofs.Common.{◌↔◌, ◌++◌, [], ◌∷◌, ℕ, Bor, IsTrue, List, map, refl, sym, take, ◌∙◌}
use Rattle.std.proofs.lemmas.{Bool.false≢true, List.take_all, List.take_more}
use Rattle.filterset_matchers.specs.Matchers.{matcher_of}
use Rattle.filterset_offers.specs.{Matched.PicksSuite, Matched.binary_id, Sieves.SelectsAs, Sieves.Sieves.no_more}
use Rattle.filterset_offers.proofs.SieveLemmas.{as-left, as-taken}
use Rattle.filterset_offers.proofs.matching.matching_suites.Goals.{then-branch+in_ok-push, else-branch}
use Rattle.filterset_offers.proofs.matching.matching_suites.Goals as goal

abbrev text : Bor (List ℕ) → List ℕ
text n = n.now

pub loop-suite-init : goal.loop-suite-init
loop-suite-init c = (c.in_ok-ready.ensures, ([], no_more, rw c.new-found.ensures.items refl))

pub loop-suite-preserved : goal.loop-suite-preserved
loop-suite-preserved c =
    let suites = c.args.suites.now in
    let i = c.loop-suite.suite-index in
    let suite = c.suite-item.result in
    let old = take i suites in
    let same = c.loop-suite.invariant.0 in
    let matcher = matcher_of c.args.matcher.now in
    let Picks = PicksSuite c.args.compared matcher in
    let says : IsTrue c.in_ok-matches.field-0 ↔ Picks suite = rw (same, c.compared_text.ensures) at c.in_ok-matches.ensures.matches in
    let next : SelectsAs Picks binary_id (old ++ suite ∷ []) (map text c.if-branch.found.items) = elim c.if-branch.branch [
      | then-branch+in_ok-push w ↦
          rw w.found-is (as-taken Picks binary_id text old suite c.loop-suite.found.items w.push.new.self.items w.as_str.result w.in_ok-push.ensures.items w.as_str.ensures c.loop-suite.invariant.1 (says.0 w.if-branch.true))
      | else-branch w ↦
          rw w.found-is (as-left Picks binary_id old suite _ c.loop-suite.invariant.1 (λ is. false≢true (sym w.if-branch.false ∙ says.1 is)))
    ] in
    (c.in_ok-matches.ensures.same ∙ same, rw (take_more suites i suite c.loop-suite-test.true, (sym c.suite-item.is)) next)

pub returns : goal.returns
returns c =
    let are = c.loop-suite.invariant.1 in
    rw (take_all c.loop-suite.suite-index c.args.suites.now c.loop-suite-test.false) at are
