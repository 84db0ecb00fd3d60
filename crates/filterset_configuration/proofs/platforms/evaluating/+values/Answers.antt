use Rattle.filterset_configuration.proofs.PlatformRows.{all_is, any_is}
use Rattle.filterset_configuration.proofs.platforms.evaluating.+values.Goals as goal

pub value_of-returns-in-All : goal.value_of-returns-in-All
value_of-returns-in-All t c = rw (all_is _ c.in-All.expressions c.in-All.is) cc

pub value_of-returns-in-Any : goal.value_of-returns-in-Any
value_of-returns-in-Any t c = rw (any_is _ c.in-Any.expressions c.in-Any.is) cc
