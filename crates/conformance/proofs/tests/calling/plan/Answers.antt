use Rattle.std.proofs.Common.{◌≡◌, false, Some, subst, sym, rules}
use Rattle.filterset_expression.specs.{BinaryMeaning.IsDefiniteTree, declared.query.BinaryQuery.BinaryQuery}
use Rattle.conformance.proofs.tests.calling.plan.Goals as goal

-- a binary that is decided as false has no test that the filterset picks
pub returns-then-eq : goal.returns-then-eq
returns-then-eq g c packages e default test of_tree same means =
    let is : c.in_ok-told.told ≡ Some false = search (rules, c.if-eq.true) in
    let definite = (c.in_ok-told.ensures.meaning packages e default of_tree false).0 is in
    c.skipping_loses_no_test.ensures packages e of_tree.0 default test of_tree.1
    (subst (λ (q : BinaryQuery). IsDefiniteTree e packages q default false) (sym same) definite) means
