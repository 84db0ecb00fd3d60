-- What filtersets are asked for.
use Rattle.std.specs.Prelude.{◌≡◌, List, map}
use Rattle.filterset_record.specs.Columns.{default_filter_of, expr_of}
use Rattle.filterset_record.specs.{declared.expression.ColumnExpr.ColumnExpr, Record.BinaryRow, Rows.binary_row}
use Rattle.filterset_expression.specs.{Meaning.IsCompiled, FlatExpressions.IsFlatOfTree}
use Rattle.filterset_expression.specs.declared.flat.FlatExpr.{FlatExpr}
use Rattle.filterset_grammar.specs.Tree.{Tree}
use Rattle.filterset_faults.specs.declared.span.SourceSpan.{SourceSpan}
use Rattle.filterset_cli.specs.{declared.lookup.RecordLookup.RecordLookup, Library.Background}

-- the lookup tells the groups of the tests of these binaries
abbrev pub IsLookupOf : List BinaryRow → RecordLookup → Type 0
IsLookupOf binaries lookup = binaries ≡ map binary_row lookup.binaries.now

-- P holds of each tree that the expression is compiled from, and of the background that it is asked against
abbrev pub ForItsExpr : ColumnExpr → (Background → Tree SourceSpan → Type 0) → Type 0
ForItsExpr columns P = (background : Background) (tree : Tree SourceSpan)
    → IsCompiled background.packages tree (expr_of columns) → default_filter_of columns ≡ background.default
    → P background tree

-- P holds of each tree that both may be asked for, and of the background that they are asked against
abbrev pub ForItsColumns : FlatExpr → ColumnExpr → (Background → Tree SourceSpan → Type 0) → Type 0
ForItsColumns flat columns P = (background : Background) (tree : Tree SourceSpan)
    → IsFlatOfTree flat background.packages tree background.default
    → IsCompiled background.packages tree (expr_of columns) → default_filter_of columns ≡ background.default
    → P background tree

-- both are about the same expression and default filter
abbrev pub IsSameExpr : ColumnExpr → ColumnExpr → Type 0
IsSameExpr old new = (expr_of new ≡ expr_of old) × (default_filter_of new ≡ default_filter_of old)
