use Rattle.std.proofs.Common.{rules, tests}
use Rattle.std.proofs.lemmas.Iterator.{cases_from_all, YieldsList-from_slice}
use Rattle.filterset_c.specs.Queries.{IsWellTest}
use Rattle.filterset_c.proofs.Texts.{tells_all}
use Rattle.filterset_c.proofs.queries.are_texts.Goals as goal

pub returns : goal.returns
returns c =
    tells_all IsWellTest c.all.result c.args.tests.now (cases_from_all _ _ c.all.result IsWellTest (λ x. ¬ IsWellTest x) c.all.ensures.ran
    (YieldsList-from_slice c.args.tests.now cc) (λ x q k. search (rules, tests)) (λ x q k. search (rules, tests)))
