use Rattle.std.proofs.Common.{◌++◌, ◌∷◌, ◌∙◌, [], ℕ, Bor, List, map, refl, sym, take}
use Rattle.std.proofs.lemmas.{Bool.false≢true, List.take_all, List.take_more}
use Rattle.filterset_offers.specs.{Matched.IsBuiltFor, Matched.binary_id, Sieves.SelectsAs, Sieves.Sieves.no_more}
use Rattle.filterset_offers.proofs.SieveLemmas.{as-left, as-taken}
use Rattle.filterset_offers.proofs.matching.suites_built_for.Goals.{then-is_built_for+in_ok-push, else-is_built_for}
use Rattle.filterset_offers.proofs.matching.suites_built_for.Goals as goal

pub loop-suite-init : goal.loop-suite-init
loop-suite-init c = ([], no_more, rw c.new-found.ensures.items refl)

pub loop-suite-preserved : goal.loop-suite-preserved
loop-suite-preserved c =
    let suites = c.args.suites.now in
    let i = c.loop-suite.suite-index in
    let suite = c.suite-item.result in
    let old = take i suites in
    let Is = IsBuiltFor c.args.platform in
    let next : SelectsAs Is binary_id (old ++ suite ∷ []) (map (λ (n : Bor (List ℕ)). n.now) c.if-is_built_for.found.items) = elim c.if-is_built_for.branch [
      | then-is_built_for+in_ok-push w ↦
          rw w.found-is (as-taken Is binary_id (λ (n : Bor (List ℕ)). n.now) old suite c.loop-suite.found.items w.push.new.self.items w.as_str.result w.in_ok-push.ensures.items w.as_str.ensures c.loop-suite.invariant (c.is_built_for.ensures.0 w.if-is_built_for.true))
      | else-is_built_for w ↦
          rw w.found-is (as-left Is binary_id old suite _ c.loop-suite.invariant (λ is. false≢true (sym w.if-is_built_for.false ∙ c.is_built_for.ensures.1 is)))
    ] in
    rw (take_more suites i suite c.loop-suite-test.true, (sym c.suite-item.is)) next

pub returns : goal.returns
returns c =
    let are = c.loop-suite.invariant in
    rw (take_all c.loop-suite.suite-index c.args.suites.now c.loop-suite-test.false) at are
