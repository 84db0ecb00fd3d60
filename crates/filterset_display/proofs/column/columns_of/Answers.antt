use Rattle.filterset_display.proofs.ColumnLemmas.{width_bound}
use Rattle.filterset_display.proofs.column.columns_of.Goals as goal

pub returns-in_default-clause-bound : goal.returns-in_default-clause-bound
returns-in_default-clause-bound c = rw (c.unwrap_or.ensures, c.width.ensures.value) (width_bound c.args.c)
