use Rattle.std.proofs.Common.{arith, List, subst}
use Rattle.filterset_c.specs.{Queries.AreAllTexts, declared.queries.Test.Test}
use Rattle.filterset_c.proofs.Numbers.{only_texts}
use Rattle.filterset_c.proofs.filterset_matches_test.Goals as goal

pub returns-clause-not_utf8 : goal.returns-clause-not_utf8
returns-clause-not_utf8 c holds platform not =
    c.filterset_matches_tests.ensures.not_utf8 holds platform (omega (arith, c.from_ref.ensures.len, c.from_mut-answers.ensures.len))
    (λ all. not (only_texts c.args.binary.now c.args.test.now (subst (λ (tests : List Test). AreAllTexts c.args.binary.now tests) c.from_ref.ensures.value all)))
