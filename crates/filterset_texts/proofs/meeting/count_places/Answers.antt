use Rattle.std.proofs.Common.{◌≡◌, ◌∙◌, length, arith, rules}
use Rattle.filterset_texts.proofs.Ends.{place_count_more}
use Rattle.filterset_texts.proofs.meeting.count_places.Goals as goal

pub overflow_add-count-in-loop-sequence : goal.overflow_add-count-in-loop-sequence
overflow_add-count-in-loop-sequence c = search (rules, arith, place_count_more)

pub loop-sequence-preserved : goal.loop-sequence-preserved
loop-sequence-preserved c = search (rules, arith, place_count_more)
