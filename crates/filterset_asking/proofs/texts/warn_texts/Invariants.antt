use Rattle.std.proofs.Common.{◌≡◌, ◌++◌, map, string_bytes, take}
use Rattle.filterset_entries.specs.Checked.{text_row}
use Rattle.filterset_display.specs.Columns.{Text}
use Rattle.filterset_asking.specs.{Contexts.basis_of, Warnings.WarningsOf}
use Rattle.filterset_asking.proofs.texts.warn_texts.Given as goal

-- the warnings of the texts so far were written
abbrev pub invariant-loop-i : goal.invariant-loop-i
invariant-loop-i l = (piece : Text) × (string_bytes l.output ≡ string_bytes l.initial.output ++ piece)
    × WarningsOf l.cx.form l.cx.known_groups.now (basis_of l.cx) l.cx.subjects.items 1 (map text_row (take l.i l.texts)) l.count piece
