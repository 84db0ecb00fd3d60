use Rattle.std.proofs.Common.{◌≡◌, ◌++◌, string_bytes, take}
use Rattle.std.specs.List.{flat_map}
use Rattle.filterset_overrides.specs.TableText.{row_line, warning_lines}
use Rattle.filterset_overrides.proofs.counting.text.override_table_text.Given as goal

-- the lines so far were written
abbrev pub invariant-loop-row : goal.invariant-loop-row
invariant-loop-row l = string_bytes l.text ≡ flat_map (row_line l.table.columns.items) (take l.row-index l.table.rows.items)

-- and the warnings so far
abbrev pub invariant-loop-row-2 : goal.invariant-loop-row-2
invariant-loop-row-2 l = string_bytes l.text
    ≡ flat_map (row_line l.table.columns.items) l.table.rows.items ++ flat_map (warning_lines l.table.columns.items) (take l.row-index l.table.rows.items)
