use Rattle.std.proofs.Common.{◌≡◌, ◌≤◌, ◌++◌, map, string_bytes, take}
use Rattle.filterset_display.specs.Columns.{Text}
use Rattle.filterset_answers.specs.Answers.{FaultsOf}
use Rattle.filterset_entries.specs.Checked.{HasFaults, text_row}
use Rattle.filterset_answers.proofs.checking.push_texts.Given as goal

-- the faults of the texts so far were written
abbrev pub invariant-loop-i : goal.invariant-loop-i
invariant-loop-i l =
    (l.faulty ≤ l.i) × ((piece : Text) × (string_bytes l.output ≡ string_bytes l.initial.output ++ piece)
    × FaultsOf (HasFaults l.names) l.form 1 (map text_row (take l.i l.texts)) l.faulty piece)
