use Rattle.std.proofs.Common.{◌↔◌, ◌∙◌, IsTrue, Some, ap, refl, subst}
use Rattle.filterset_expression.specs.Expression.{Lookup, with_default}
use Rattle.filterset_expression.specs.{FlatExpressions.IsTold, Meaning.Meaning, declared.query.TestQuery.TestQuery}
use Rattle.filterset_expression.proofs.{LeafAnswers.told_of_test, Meanings.compiled_means}
use Rattle.filterset_c.specs.Queries.{matches_named}
use Rattle.filterset_c.proofs.matching.flat_number.OwnLists.{reads-GroupLookup-matches_group-1-1}
use Rattle.filterset_c.proofs.matching.flat_number.Goals as goal

pub returns-in-Some : goal.returns-in-Some
returns-in-Some c = (
  c.in-Some.answer,
  c.yes_or_no.ensures,
  λ packages e default of_tree.
      let query : TestQuery = record { binary_query = c.args.binary_query.now; test_name = record { ref_ptr = (0, 0); now = c.args.test.now.name.now } } in
      let lookup = matches_named c.args.test.now.group.now in
      let told : IsTold c.args.flat.now query.binary_query (Some c.in-Some.answer) = rw c.in-Some.is at c.requires.told in
      let own = told_of_test (with_default default of_tree.0) query lookup c.in-Some.answer (told of_tree.0 default of_tree.2) in
      let means = compiled_means packages query default lookup e of_tree.0 of_tree.1 in
      (query, refl, refl, (λ yes. means.0 (own.0 yes), λ is. own.1 (means.1 is))),
)

pub returns : goal.returns
returns c = (
  c.in_ok-answer.answer,
  c.yes_or_no-2.ensures,
  λ packages e default of_tree. (
    c.query-query.result,
    c.query-query.ensures.binary,
    c.query-query.ensures.name ∙ c.in_ok-known_test.ensures.name,
    subst (λ (lookup : Lookup). IsTrue c.in_ok-answer.answer ↔ Meaning e packages c.query-query.result default lookup)
        (reads-GroupLookup-matches_group-1-1 _ _ ∙ ap matches_named c.in_ok-known_test.ensures.group)
        (c.in_ok-answer.ensures.meaning packages e default of_tree),
  ),
)
