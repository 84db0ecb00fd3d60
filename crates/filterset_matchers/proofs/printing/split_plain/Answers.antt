use Rattle.filterset_matchers.proofs.Runs.{run_ends}
use Rattle.filterset_matchers.proofs.printing.split_plain.Goals as goal

pub range-requires-clause-end_boundary : goal.range-requires-clause-end_boundary
range-requires-clause-end_boundary c =
    rw (← c.as_bytes.ensures.value) (run_ends _ c.plain_len-count.result c.as_bytes.ensures.utf8 c.plain_len-count.ensures.within c.plain_len-count.ensures.plain)

pub range_from-requires : goal.range_from-requires
range_from-requires c = λ past.
    rw (← c.as_bytes.ensures.value) (run_ends _ c.plain_len-count.result c.as_bytes.ensures.utf8 c.plain_len-count.ensures.within c.plain_len-count.ensures.plain)
