use Rattle.std.proofs.Common.{Some}
use Rattle.filterset_expression.specs.{Expression.with_default, FlatExpressions.IsTold}
use Rattle.filterset_expression.proofs.{LeafAnswers.told_of_test, Meanings.compiled_means}
use Rattle.filterset_expression.proofs.flat.FlatExpr.matches_test_of_told.Goals as goal

pub returns-in-Some-clause-holds : goal.returns-in-Some-clause-holds
returns-in-Some-clause-holds g c = λ expr default flat.
    let lookup = (goal.GroupLookup-dyn g c.args.groups.now).GroupLookup.matches_group c.args.groups.now.1 in
    let test = c.args.query.now in
    let told : IsTold c.args.self.now test.binary_query (Some c.in-Some.answer) = rw c.in-Some.is at c.requires in
    told_of_test (with_default default expr) test lookup c.in-Some.answer (told expr default flat)

pub returns-in-Some-clause-meaning : goal.returns-in-Some-clause-meaning
returns-in-Some-clause-meaning g c = λ packages e default of_tree.
    let lookup = (goal.GroupLookup-dyn g c.args.groups.now).GroupLookup.matches_group c.args.groups.now.1 in
    let test = c.args.query.now in
    let own = returns-in-Some-clause-holds g c of_tree.0 default of_tree.2 in
    let means = compiled_means packages test default lookup e of_tree.0 of_tree.1 in
    (λ yes. means.0 (own.0 yes), λ is. own.1 (means.1 is))
