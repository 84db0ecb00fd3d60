use Rattle.std.proofs.Common.{◌≡◌, ◌++◌, List, map, take}
use Rattle.filterset_display.specs.Remarks.{RemarkRow, remark_row}
use Rattle.filterset_entries.specs.{Checked.text_row, Unread.AreAllCaretRemarks, Unread.key_remark}
use Rattle.filterset_entries.proofs.unread.unread_remarks.Given as goal

-- the filtersets so far have their remarks
abbrev pub invariant-loop-entry : goal.invariant-loop-entry
invariant-loop-entry l = AreAllCaretRemarks (map text_row (take l.entry-index l.entries)) (map remark_row l.remarks.items)

-- after those of the filtersets come those of the keys so far
abbrev pub invariant-loop-key : goal.invariant-loop-key
invariant-loop-key l = (carets : List RemarkRow) × AreAllCaretRemarks (map text_row l.entries) carets
    × (map remark_row l.remarks.items ≡ carets ++ map key_remark (take l.key-index l.key-items))
