use Rattle.std.proofs.Common.{◌≡◌, map, take}
use Rattle.filterset_entries.specs.Checked.{text_row}
use Rattle.filterset_server.specs.Edits.{edit_row, rewrites}
use Rattle.filterset_server.proofs.edits.edits_of.Given as goal

-- the edits of the filtersets so far
abbrev pub invariant-loop-i : goal.invariant-loop-i
invariant-loop-i l =
    map edit_row l.edits.items ≡ rewrites (map text_row (take l.i l.entries)) (map (λ t. t.now) (take l.i l.texts))
