use Rattle.std.proofs.Common.{◌+◌, ◌/◌, ◌∷◌, ap, ◌∙◌}
use Rattle.filterset_glob.specs.Words.{positions_of}
use Rattle.filterset_glob.proofs.PositionSets.{positions_of-start}
use Rattle.filterset_glob.proofs.positions.Positions.start.Goals as goal

pub returns-clause-start : goal.returns-clause-start
returns-clause-start c = ap (λ ws. positions_of (c.args.last + 1) (1 ∷ ws)) c.in_ok-make_empty.ensures.none ∙ positions_of-start c.args.last (c.args.last / 64)
