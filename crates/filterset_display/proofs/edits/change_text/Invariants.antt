use Rattle.std.proofs.Common.{take, string_bytes}
use Rattle.filterset_display.specs.Edits.{AreChanged}
use Rattle.filterset_display.proofs.edits.change_text.Given as goal

abbrev pub invariant-loop-next : goal.invariant-loop-next
invariant-loop-next l = AreChanged l.encoding l.fn.old (take l.next-index l.changes) (string_bytes l.text)
