use Rattle.std.proofs.Common.{arith, ◌≡◌, ◌↔◌, ◌<◌, ◌≤◌, ◌+◌, ◌-◌, ◌++◌, ◌∙◌, ℕ, Bool, Bor, IsTrue, List, [], Option, Some, None, ap, codes, drop, length, refl, rules, string_bytes, subst, take}
use Rattle.std.proofs.lemmas.Result.{on_ok_weaker}
use Rattle.filterset_record.proofs.ColumnLemmas.{some_item}
use Rattle.filterset_record.specs.{Columns.names_of, Columns.test_of, Columns.IsAt, Record.BinaryRow, Record.TestRow}
use Rattle.filterset_record.specs.{Rows.binary_row, Rows.test_row, declared.record.binaries.TestEntry.TestEntry}
use Rattle.filterset_expression.specs.BinaryMeaning.{IsDefiniteTree, IsUndecidedTree}
use Rattle.filterset_expression.specs.{Expression.with_default, FlatExpressions.IsTold, Meaning.Meaning}
use Rattle.filterset_expression.specs.declared.query.BinaryQuery.{BinaryQuery}
use Rattle.filterset_expression.proofs.{LeafAnswers.told_of_test, Meanings.compiled_means}
use Rattle.filterset_faults.specs.declared.span.SourceSpan.{SourceSpan}
use Rattle.filterset_graph.specs.declared.binary.TestCaseName.{TestCaseName}
use Rattle.filterset_grammar.specs.Tree.{Tree}
use Rattle.filterset_json.specs.{Pieces.Pieces, Pieces.no_pieces, Shape.Text}
use Rattle.filterset_json.proofs.PieceLemmas.{added_twice}
use Rattle.filterset_cli.specs.Library.{Background, IsAboutBinary}
use Rattle.filterset_cli.specs.Lines.{answer_text, lines_of, test_line}
use Rattle.filterset_cli.specs.{Lookup.matches_recorded_group, Report.BinaryLines, Report.TestLine}
use Rattle.filterset_cli.proofs.ColumnAnswers.{same_at, same_length}
use Rattle.filterset_cli.proofs.{ListedLemmas.Pieces-run, ListedLemmas.where_added, ReportLemmas.taken_all}
use Rattle.filterset_cli.proofs.report.sections.push_binary.Goals as goal

-- the lines of a binary, by what the library tells of it, and the lines of its tests
binary_lines : (background : Background) (tree : Tree SourceSpan) (query : BinaryQuery) (binary : BinaryRow) (told : Option Bool) (tests : Text) →
    IsAboutBinary query binary → Pieces (TestLine background tree binary) binary.tests tests →
    ((b : Bool) → (told ≡ Some b) ↔ IsDefiniteTree tree background.packages query background.default b) →
    ((told ≡ None) ↔ IsUndecidedTree tree background.packages query background.default) →
    BinaryLines background tree binary ((codes "  binary " ++ (binary.id ++ (codes ": " ++ (answer_text told ++ codes "\n")))) ++ tests)
binary_lines background tree query binary (Some b) tests about pieces definite undecided = (query, Some b, tests, about, pieces, (definite b).0 refl, refl)
binary_lines background tree query binary None tests about pieces definite undecided = (query, None, tests, about, pieces, undecided.0 refl, refl)

pub returns-in-Some-clause-lines : goal.returns-in-Some-clause-lines
returns-in-Some-clause-lines c =
    let listed = c.args.listed.now in
    let binary = listed.binary.now in
    let tests = binary.tests.items in
    let row = binary_row binary in
    let asked = c.query_of-asked.result in
    let told = c.in_ok-told.told in
    let answer = c.in-Some.answer in
    let tells = subst (λ (told : Option Bool). IsTold c.args.flat.now asked told) c.in-Some.is c.in_ok-told.ensures.told in
    let names = names_of listed.names in
    let counted : c.len.result ≡ length tests = search rules in
    let n = c.len.result - 0 in
    let whole : 0 + n ≡ length tests = omega (arith, counted) in
    let run = lines_of binary.id answer (take n (drop 0 tests)) in
    let own = codes "  binary " ++ (binary.id ++ (codes ": " ++ (answer_text told ++ codes "\n"))) in
    where_added c.push_str.result _ _ _ c.push_str.ensures.bytes (λ last. (
      own ++ run,
      added_twice _ _ _ _ _ c.in_ok-push_binary_line.ensures (last ∙ ap (λ xs. string_bytes c.push_binary_line.new.lines ++ xs) c.lines_between.ensures),
      λ background tree is compiled of_default of_binaries.
          let lookup = matches_recorded_group background.binaries in
          let each : (k : ℕ) (test : TestEntry) → 0 ≤ k → k < 0 + n → IsAt tests k test → TestLine background tree row (test_row test) (test_line binary.id answer test) =
          λ k test low high at.
          let sized : length names ≡ length tests = same_length (λ (name : Bor TestCaseName). name.now) (λ (t : TestEntry). t.name) names tests listed.named in
          let name = some_item names k (rw sized at.0) in
          let named = same_at (λ (name : Bor TestCaseName). name.now) (λ (t : TestEntry). t.name) names tests k name.0 test listed.named name.1 at in
          let query = test_of asked name.0 in
          let holds = told_of_test (with_default background.default is.0) query lookup answer (tells is.0 background.default is.2) in
          let means = compiled_means background.packages query background.default lookup tree is.0 is.1 in
          let says : IsTrue answer ↔ Meaning tree background.packages query background.default lookup = (λ yes. means.0 (holds.0 yes), λ meant. holds.1 (means.1 meant)) in
          (query, answer, c.query_of-asked.ensures, named, says, refl) in
          binary_lines background tree asked row told run c.query_of-asked.ensures
          (subst (λ (rows : List TestRow). Pieces (TestLine background tree row) rows run) (taken_all test_row tests (0 + n) whole)
          (Pieces-run (TestLine background tree row) binary.id answer tests 0 n [] (omega (arith, whole)) each no_pieces))
          (c.in_ok-told.ensures.meaning background.packages tree background.default is) (c.in_ok-told.ensures.unknown background.packages tree background.default is),
    ))

pub returns-in-None-clause-lines : goal.returns-in-None-clause-lines
returns-in-None-clause-lines c =
    let told = c.in_ok-told.told in
    let row = binary_row c.args.listed.now.binary.now in
    let own = codes "  binary " ++ (row.id ++ (codes ": " ++ (answer_text told ++ codes "\n"))) in
    on_ok_weaker c.push_asked_tests.result (λ others. (
      own ++ others.0,
      added_twice _ _ _ _ _ c.in_ok-push_binary_line.ensures others.1,
      λ background tree is compiled of_default of_binaries.
          binary_lines background tree c.query_of-asked.result row told others.0 c.query_of-asked.ensures
          (others.2 background tree compiled of_default of_binaries)
          (c.in_ok-told.ensures.meaning background.packages tree background.default is) (c.in_ok-told.ensures.unknown background.packages tree background.default is),
    )) c.push_asked_tests.ensures.lines
