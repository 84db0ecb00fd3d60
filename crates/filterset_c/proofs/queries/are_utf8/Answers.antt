use Rattle.std.proofs.Common.{rules, tests}
use Rattle.std.proofs.lemmas.Iterator.{cases_from_all, YieldsList-from_slice}
use Rattle.filterset_c.specs.Queries.{IsText}
use Rattle.filterset_c.proofs.Texts.{tells_all}
use Rattle.filterset_c.proofs.queries.are_utf8.Goals as goal

pub returns : goal.returns
returns c =
    tells_all IsText c.all.result c.args.texts.now (cases_from_all _ _ c.all.result IsText (λ x. ¬ IsText x) c.all.ensures.ran
    (YieldsList-from_slice c.args.texts.now cc) (λ x q k. search (rules, tests)) (λ x q k. search (rules, tests)))
