-- The warnings of a configuration's file.
use Rattle.std.specs.{Prelude.◌≡◌, Prelude.ℕ, Prelude.List, Prelude.None, Prelude.Some, Prelude.length, Borrow.Bor}
use Rattle.filterset_entries.specs.{Entries.rows_in, Forms.IsWritten, Forms.Writing, Forms.writing, Placements.line}
use Rattle.filterset_entries.specs.{Unread.AreUnreadRemarks, declared.entries.ConfiguredTexts.ConfiguredTexts}
use Rattle.filterset_display.specs.{declared.remark.Form.Form, Columns.Text, Remarks.RemarkRow}
use Rattle.filterset_display.specs.declared.source.Source.{Source}
use Rattle.filterset_json.specs.Pieces.{Pieces}

-- what nextest does not read of a configuration, and how many remarks on that are written
abbrev pub WarnsOfFile : Form → ConfiguredTexts → ℕ → Text → Type 0
WarnsOfFile form texts count text = (remarks : List RemarkRow) × AreUnreadRemarks texts.file.now.text.now (rows_in texts) remarks × (count ≡ length remarks)
    × (let file = texts.file in Pieces (IsWritten (writing form file.now.origin.now file.now.text.now
    (Some (record { file = file; spot = line (record { from = 0; to = length file.now.text.now }) })) None)) remarks text)
