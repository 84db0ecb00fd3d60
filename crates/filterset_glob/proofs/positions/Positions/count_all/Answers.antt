use Rattle.std.proofs.Common.{arith}
use Rattle.filterset_glob.proofs.PositionSets.{long}
use Rattle.filterset_glob.proofs.positions.Positions.count_all.Goals as goal

pub returns : goal.returns
returns c = omega (arith, long _ _ c.args.self.now c.self.view_is)
