use Rattle.std.proofs.Common.{◌≡◌, ◌++◌, drop, map}
use Rattle.serde_json.specs.View.{view}
use Rattle.filterset_server.specs.Highlights.{marks_data, start}
use Rattle.filterset_server.proofs.highlighting.mark_values.Given as goal

-- the numbers so far, before those of the tokens that are left
abbrev pub invariant-loop-mark : goal.invariant-loop-mark
invariant-loop-mark l = marks_data start l.marks ≡ map view l.values.items ++ marks_data l.last (drop l.mark-index l.marks)
