use Rattle.std.proofs.Common.{◌≡◌, map, take}
use Rattle.filterset_entries.specs.{Checked.text_row, Entries.numbered_rows}
use Rattle.filterset_entries.proofs.entries.given_entries.Given as goal

-- the texts so far have their entries
abbrev pub invariant-loop-i : goal.invariant-loop-i
invariant-loop-i l = map text_row l.entries.items ≡ numbered_rows l.word l.kind (map (λ t. t.now) (take l.i l.texts))
