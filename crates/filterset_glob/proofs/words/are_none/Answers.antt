use Rattle.std.proofs.Common.{arith}
use Rattle.filterset_glob.proofs.PositionSets.{none_in}
use Rattle.filterset_glob.proofs.words.are_none.Goals as goal

pub returns : goal.returns
returns c empty i = none_in c.args.words.now (λ k l. c.loop-at.invariant k (omega arith)) i
