use Rattle.std.proofs.Common.{◌≡◌, ◌++◌, map, string_bytes, take}
use Rattle.filterset_json.specs.{Pieces.Pieces, Shape.Text}
use Rattle.filterset_language.specs.Views.{tree_of}
use Rattle.filterset_cli.specs.{Asking.IsSameExpr, Library.background_of, Report.BinaryLines}
use Rattle.filterset_record.specs.Rows.{binary_row}
use Rattle.filterset_cli.proofs.report.sections.push_asked.Given as goal

-- the lines of the binaries so far were added
abbrev pub invariant-loop-listed : goal.invariant-loop-listed
invariant-loop-listed l =
    (text : Text) × (string_bytes l.lines ≡ string_bytes l.initial.lines ++ text)
    × Pieces (BinaryLines (background_of l.setting) (tree_of l.filterset.parsed)) (map (λ b. binary_row b.binary.now) (take l.listed-index l.setting.lookup.listed.items)) text
    × IsSameExpr l.initial.columns l.columns
