use Rattle.filterset_display.proofs.MessageLemmas.{Read}
use Rattle.filterset_display.proofs.message.read_changes.Given as goal

abbrev pub invariant-loop-value : goal.invariant-loop-value
invariant-loop-value l = Read l.values l.value-index l.changes.items
