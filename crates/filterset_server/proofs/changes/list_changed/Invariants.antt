use Rattle.std.proofs.Common.{◌≡◌, map, take}
use Rattle.filterset_entries.specs.Checked.{text_row}
use Rattle.filterset_server.proofs.ActionLemmas.{now_of, text_in}
use Rattle.filterset_server.proofs.changes.list_changed.Given as goal

abbrev pub invariant-loop-entry : goal.invariant-loop-entry
invariant-loop-entry l = map now_of l.texts.items ≡ map text_in (map text_row (take l.entry-index l.entries))
