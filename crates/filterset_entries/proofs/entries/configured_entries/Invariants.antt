use Rattle.std.proofs.Common.{◌≡◌, map, take}
use Rattle.std.specs.List.{enumerate_from}
use Rattle.filterset_entries.specs.{Checked.text_row, Entries.placed_row}
use Rattle.filterset_entries.proofs.entries.configured_entries.Given as goal

-- the filtersets so far have their entries
abbrev pub invariant-loop-i : goal.invariant-loop-i
invariant-loop-i l =
    map text_row l.entries.items ≡ map (placed_row l.configured) (enumerate_from 0 (take l.i l.configured.filtersets.now))
