use Rattle.std.proofs.Common.{rules}
use Rattle.nextest_filtering.specs.Bans.{is_banned}
use Rattle.nextest_filtering.proofs.compile.bans.find_banned.Goals as goal

pub returns : goal.returns
returns c = c.leaves_where.ensures (is_banned c.args.kind) (search rules)
