use Rattle.std.proofs.Common.{rules}
use Rattle.filterset_answers.proofs.checking.push_counts.Goals as goal

pub returns : goal.returns
returns c = rw (← c.unchecked_packages-packages.ensures, ← c.unchecked_groups-groups.ensures) (search rules)
