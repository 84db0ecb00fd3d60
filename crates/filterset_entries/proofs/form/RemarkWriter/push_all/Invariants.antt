use Rattle.std.proofs.Common.{◌≡◌, ◌++◌, map, string_bytes, take}
use Rattle.filterset_display.specs.{Columns.Text, Remarks.remark_row}
use Rattle.filterset_json.specs.Pieces.{Pieces}
use Rattle.filterset_entries.specs.Forms.{IsWritten, writing_of}
use Rattle.filterset_entries.proofs.form.RemarkWriter.push_all.Given as goal

-- the remarks so far were written
abbrev pub invariant-loop-remark : goal.invariant-loop-remark
invariant-loop-remark l =
    (piece : Text) × (string_bytes l.output ≡ string_bytes l.initial.output ++ piece)
    × Pieces (IsWritten (writing_of l.self)) (map remark_row (take l.remark-index l.remarks)) piece
