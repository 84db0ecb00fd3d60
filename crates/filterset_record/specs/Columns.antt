-- Columns of answers, and what each answer is about.
use Rattle.std.specs.Prelude.{◌≡◌, ◌<◌, ◌↔◌, ℕ, Bool, IsTrue, List, length, slice_index_or}
use Rattle.std.specs.Borrow.{Bor}
use Rattle.filterset_expression.specs.declared.query.{BinaryQuery.BinaryQuery, TestQuery.TestQuery}
use Rattle.filterset_expression.specs.{Contexts.default_of, declared.expression.CompiledExpr.CompiledExpr}
use Rattle.filterset_graph.specs.declared.binary.TestCaseName.{TestCaseName}
use Rattle.filterset_record.specs.Answers.{answer_at}
use Rattle.filterset_record.specs.declared.{column.Column.Column, expression.ColumnExpr.ColumnExpr, names.Names.Names}

-- the answer of a column at a position
abbrev pub answer_of : Column → ℕ → Bool
answer_of column position = answer_at column.answers position

-- the item at a position
abbrev pub IsAt : {A : Type 0} → List A → ℕ → A → Type 0
IsAt items position item = (position < length items) × (slice_index_or items position item ≡ item)

-- the column has one answer for each item, which is true exactly if the item is as `holds` says
pub record Answered {A : Type 0} (column : Column) (items : List A) (holds : A → Type 0) : Type 0 where
  pub counted : column.len ≡ length items
  pub each : (position : ℕ) (item : A) → IsAt items position item → IsTrue (answer_of column position) ↔ holds item

-- the same where another column is true; the answers elsewhere may be any
pub record AnsweredWhere {A : Type 0} (wanted column : Column) (items : List A) (holds : A → Type 0) : Type 0 where
  pub counted : column.len ≡ length items
  pub each : (position : ℕ) (item : A) → IsAt items position item → IsTrue (answer_of wanted position)
      → IsTrue (answer_of column position) ↔ holds item

-- the test of this binary that has this name
abbrev pub test_of : BinaryQuery → Bor TestCaseName → TestQuery
test_of binary name = record { binary_query = binary; test_name = name }

-- the names, in their order
abbrev pub names_of : Names → List (Bor TestCaseName)
names_of names = names.tests.items

-- the expression
abbrev pub expr_of : ColumnExpr → CompiledExpr
expr_of columns = columns.expr.now

-- its default filter
abbrev pub default_filter_of : ColumnExpr → CompiledExpr
default_filter_of columns = default_of columns.context
