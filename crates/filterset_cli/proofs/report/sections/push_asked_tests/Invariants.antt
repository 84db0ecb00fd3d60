use Rattle.std.proofs.Common.{◌≡◌, ◌++◌, ◌-◌, ◌≤◌, length, map, string_bytes, take}
use Rattle.filterset_cli.specs.{Asking.ForItsExpr, Asking.IsLookupOf, Report.TestLine}
use Rattle.filterset_record.specs.Rows.{binary_row, test_row}
use Rattle.filterset_json.specs.{Shape.Text, Pieces.Pieces}
use Rattle.filterset_cli.proofs.report.sections.push_asked_tests.Given as goal

abbrev pub decreases-loop-position : goal.decreases-loop-position
decreases-loop-position l = l.column.len - l.position

-- the lines of the tests so far were added
abbrev pub invariant-loop-position : goal.invariant-loop-position
invariant-loop-position l =
    (text : Text) × (string_bytes l.lines ≡ string_bytes l.initial.lines ++ text)
    × ForItsExpr l.fn.columns (λ background tree. IsLookupOf background.binaries l.lookup
    → Pieces (TestLine background tree (binary_row l.listed.binary.now)) (map test_row (take l.position l.listed.binary.now.tests.items)) text)
    × (l.position ≤ length l.listed.binary.now.tests.items)
