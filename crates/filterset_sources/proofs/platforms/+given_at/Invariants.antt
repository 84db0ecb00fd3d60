use Rattle.std.proofs.Common.{length}
use Rattle.filterset_sources.proofs.platforms.+given_at.Given as goal

abbrev pub decreases-given_at : goal.decreases-given_at
decreases-given_at g l = length l.keys.now
