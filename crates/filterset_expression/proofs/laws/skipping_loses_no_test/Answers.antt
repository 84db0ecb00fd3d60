use Rattle.std.proofs.Common.{◌≡◌, true, false, refl}
use Rattle.filterset_expression.proofs.{BinaryMeanings.compiled_definite, LeafAnswers.definite_of_test}
use Rattle.filterset_expression.proofs.Meanings.{compiled_means}
use Rattle.filterset_expression.proofs.laws.skipping_loses_no_test.Goals as goal

pub returns : goal.returns
returns g c = λ packages e compiled default test is definite means.
    let lookup = (goal.GroupLookup-dyn g c.args.groups.now).GroupLookup.matches_group c.args.groups.now.1 in
    let holds = (compiled_means packages test default lookup e compiled is).1 means in
    let always = (compiled_definite packages test.binary_query default e compiled is false).1 definite in
    let clash : true ≡ false = definite_of_test compiled default test lookup true false (λ yes. holds, λ held. refl) always in
    cc
