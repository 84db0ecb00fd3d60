use Rattle.std.proofs.Common.{◌+◌, ◌++◌, ◌∷◌, [], Bor, List, map, take, subst, sym}
use Rattle.std.specs.List.{AllZip}
use Rattle.std.proofs.lemmas.List.{take_all}
use Rattle.filterset_graph.specs.declared.binary.TestCaseName.{TestCaseName}
use Rattle.filterset_overrides.specs.Applying.{AppliesAs, Test}
use Rattle.filterset_overrides.proofs.ListLemmas.{AllZip-push, behind, map_more}
use Rattle.filterset_overrides.proofs.applying.push_applications.Goals as goal

pub returns : goal.returns
returns c packages default tests compiled laid before =
    rw (take_all c.loop-test.test-index _ c.loop-test-test.false) at (c.loop-test.invariant packages default tests compiled laid before)

pub loop-test-preserved : goal.loop-test-preserved
loop-test-preserved c packages default tests compiled laid before =
    let items = c.args.binary.now.tests.now in
    let i = c.loop-test.test-index in
    let one = c.test-item.result in
    let query = c.args.binary.now.query in
    let asked = c.args.asked.now in
    let f : Bor TestCaseName → Test = λ t. (query, t.now) in
    let this : Test = (query, one.now) in
    let so_far = map f (take i items) in
    let added = AllZip-push (λ test. AppliesAs packages default test asked) (tests ++ so_far) c.loop-test.applications.items this c.in_ok-apply_flat.field-0
    (c.loop-test.invariant packages default tests compiled laid before) (c.in_ok-apply_flat.ensures packages default compiled laid) in
    rw c.in_ok-push.ensures.items (subst (λ (all : List Test). AllZip (λ test. AppliesAs packages default test asked) all (c.loop-test.applications.items ++ c.in_ok-apply_flat.field-0 ∷ []))
    (behind tests so_far (this ∷ []) (map f (take (i + 1) items)) (map_more f items i one c.loop-test-test.true (sym c.test-item.is))) added)
