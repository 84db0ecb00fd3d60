-- Answers of columns for the tests of a record.
use Rattle.std.proofs.Common.{◌≡◌, ◌↔◌, ◌∙◌, ℕ, Bor, IsTrue, List, ap, get_or, length, map, refl, subst, sym}
use Rattle.std.proofs.lemmas.List.{length-map, get_or-map}
use Rattle.filterset_record.specs.Columns.{answer_of, default_filter_of, names_of, test_of, Answered, IsAt}
use Rattle.filterset_record.specs.declared.{column.Column.Column, expression.ColumnExpr.ColumnExpr}
use Rattle.filterset_record.proofs.ColumnLemmas.{some_item}
use Rattle.filterset_record.specs.{Record.BinaryRow, Rows.binary_row, declared.record.binaries.TestEntry.TestEntry}
use Rattle.filterset_expression.specs.{Meaning.Meaning, declared.expression.CompiledExpr.CompiledExpr}
use Rattle.filterset_expression.specs.declared.query.{BinaryQuery.BinaryQuery, TestQuery.TestQuery}
use Rattle.filterset_faults.specs.declared.span.SourceSpan.{SourceSpan}
use Rattle.filterset_grammar.specs.Tree.{Tree}
use Rattle.filterset_graph.specs.declared.binary.TestCaseName.{TestCaseName}
use Rattle.filterset_cli.specs.{Asking.IsLookupOf, Library.Background, Lookup.matches_recorded_group}
use Rattle.filterset_cli.specs.declared.{listed.ListedBinary.ListedBinary, lookup.RecordLookup.RecordLookup}

module _ {A B C : Type 0} (f : A → C) (g : B → C) where
  -- as many of each
  pub same_length : (xs : List A) (ys : List B) → map f xs ≡ map g ys → length xs ≡ length ys
  same_length xs ys e = sym (length-map xs f) ∙ ap length e ∙ length-map ys g

  -- what stands at one position
  pub same_at : (xs : List A) (ys : List B) (i : ℕ) (x : A) (y : B) → map f xs ≡ map g ys → IsAt xs i x → IsAt ys i y → f x ≡ g y
  same_at xs ys i x y e at other =
      ap f (sym at.1) ∙ sym (get_or-map f xs i x (f x) at.0) ∙ ap (λ zs. get_or zs i (f x)) e ∙ get_or-map g ys i y (f x) other.0 ∙ ap g other.1

-- as many answers as tests
pub counted_tests : (listed : ListedBinary) (column : Column) → column.len ≡ length (names_of listed.names) → column.len ≡ length listed.binary.now.tests.items
counted_tests listed column counted =
    counted ∙ same_length (λ (name : Bor TestCaseName). name.now) (λ (t : TestEntry). t.name) (names_of listed.names) listed.binary.now.tests.items listed.named

-- the answer for a test of the binary that is asked about: whether the tree is true of it
pub answered_test : (columns : ColumnExpr) (asked : BinaryQuery) (listed : ListedBinary) (lookup : RecordLookup) (column : Column) (background : Background) (tree : Tree SourceSpan)
    → Answered column (names_of listed.names) (λ name. Meaning tree background.packages (test_of asked name) (default_filter_of columns) (matches_recorded_group (map binary_row lookup.binaries.now)))
    → default_filter_of columns ≡ background.default → IsLookupOf background.binaries lookup
    → (position : ℕ) (test : TestEntry) → IsAt listed.binary.now.tests.items position test
    → (query : TestQuery) × (query.binary_query ≡ asked) × (query.test_name.now ≡ test.name)
    × (IsTrue (answer_of column position) ↔ Meaning tree background.packages query background.default (matches_recorded_group background.binaries))
answered_test columns asked listed lookup column background tree means of_default of_binaries position test at =
    let tests = listed.binary.now.tests.items in
    let names = names_of listed.names in
    let counted : length names ≡ length tests = same_length (λ (name : Bor TestCaseName). name.now) (λ (t : TestEntry). t.name) names tests listed.named in
    let name = some_item names position (rw counted at.0) in (
      test_of asked name.0,
      refl,
      same_at (λ (name : Bor TestCaseName). name.now) (λ (t : TestEntry). t.name) names tests position name.0 test listed.named name.1 at,
      subst (λ (binaries : List BinaryRow). IsTrue (answer_of column position) ↔ Meaning tree background.packages (test_of asked name.0) background.default (matches_recorded_group binaries))
          (sym of_binaries)
          (subst (λ (default : CompiledExpr). IsTrue (answer_of column position) ↔ Meaning tree background.packages (test_of asked name.0) default (matches_recorded_group (map binary_row lookup.binaries.now))) of_default (means.each position name.0 name.1)),
    )
