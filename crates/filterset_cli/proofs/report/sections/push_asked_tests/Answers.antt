use Rattle.std.proofs.Common.{arith, ◌≡◌, ◌↔◌, ◌<◌, ◌≤◌, ◌+◌, ◌-◌, ◌++◌, ◌∙◌, ℕ, Bool, IsTrue, List, [], ap, drop, length, map, refl, string_bytes, subst, sym, take}
use Rattle.std.proofs.lemmas.List.{append-nil}
use Rattle.filterset_record.specs.Columns.{answer_of, default_filter_of, names_of, test_of, Answered, IsAt}
use Rattle.filterset_expression.specs.{Expression.Lookup, Meaning.Meaning, declared.query.BinaryQuery.BinaryQuery}
use Rattle.filterset_json.specs.Pieces.{Pieces, no_pieces}
use Rattle.filterset_json.proofs.PieceLemmas.{added_twice}
use Rattle.filterset_cli.specs.{Library.IsAboutBinary, Lines.lines_of, Lines.test_line}
use Rattle.filterset_cli.specs.{Lookup.matches_recorded_group, Report.TestLine}
use Rattle.filterset_record.specs.Record.{TestRow}
use Rattle.filterset_record.specs.{Rows.binary_row, Rows.test_row, declared.record.binaries.TestEntry.TestEntry}
use Rattle.filterset_cli.proofs.ColumnAnswers.{answered_test, counted_tests}
use Rattle.filterset_cli.proofs.{ListedLemmas.Pieces-run, ReportLemmas.taken_all}
use Rattle.filterset_cli.proofs.report.sections.push_asked_tests.OwnLists.{reads-PlacedLookup-matches_group-1-1}
use Rattle.filterset_cli.proofs.report.sections.push_asked_tests.Goals as goal

pub loop-position-init : goal.loop-position-init
loop-position-init c = ([], sym (append-nil _), λ background tree is of_default of_binaries. no_pieces, omega arith)

pub loop-position-preserved : goal.loop-position-preserved
loop-position-preserved c =
    let before = c.loop-position.invariant in
    let binary = c.args.listed.now.binary.now in
    let tests = binary.tests.items in
    let row = binary_row binary in
    let i = c.loop-position.position in
    let end = c.run_end-end.result in
    let n = end - i in
    let answer = c.get.result in
    let means = c.in_ok-column.ensures.meaning in
    let counted = counted_tests c.args.listed.now c.in_ok-column.column c.in_ok-column.ensures.holds.counted in
    let within : end ≤ length tests = omega (arith, c.run_end-end.ensures.within, counted) in
    let same : i + n ≡ end = omega (arith, c.run_end-end.ensures.later) in
    let run = lines_of binary.id answer (take n (drop i tests)) in
    let added = c.in_ok-push_str.ensures.bytes ∙ ap (λ xs. string_bytes c.loop-position.lines ++ xs) c.lines_between.ensures in (
      before.0 ++ run,
      added_twice _ _ _ _ _ before.1 added,
      λ background tree is of_default of_binaries.
          let each : (k : ℕ) (test : TestEntry) → i ≤ k → k < i + n → IsAt tests k test → TestLine background tree row (test_row test) (test_line binary.id answer test) =
          λ k test low high at.
          let answered = answered_test c.args.columns.now c.args.asked.now c.args.listed.now c.args.lookup.now c.in_ok-column.column background tree
          (subst (λ (lookup : Lookup). Answered c.in_ok-column.column (names_of c.args.listed.now.names) (λ name. Meaning tree background.packages (test_of c.args.asked.now name) (default_filter_of c.args.columns.now) lookup))
          (reads-PlacedLookup-matches_group-1-1 _ c.args.lookup) (means background.packages tree is)) of_default of_binaries k test at in
          let about = subst (λ (query : BinaryQuery). IsAboutBinary query row) (sym answered.1) c.requires.about in
          let alike : answer_of c.in_ok-column.column k ≡ answer = c.run_end-end.ensures.same k low (omega (arith, high, same)) ∙ sym c.get.ensures in
          let says = subst (λ (b : Bool). IsTrue b ↔ Meaning tree background.packages answered.0 background.default (matches_recorded_group background.binaries)) alike answered.3 in
          (answered.0, answer, about, answered.2, says, refl) in
          subst (λ (m : ℕ). Pieces (TestLine background tree row) (map test_row (take m tests)) (before.0 ++ run)) same
          (Pieces-run (TestLine background tree row) binary.id answer tests i n before.0 (omega (arith, same, within)) each (before.2 background tree is of_default of_binaries)),
      within,
    )

pub returns-clause-lines : goal.returns-clause-lines
returns-clause-lines c =
    let binary = c.args.listed.now.binary.now in
    let row = binary_row binary in
    let others = c.loop-position.invariant in
    let tests = binary.tests.items in
    let end : c.loop-position.position ≡ length tests = omega (arith, c.loop-position-test.false, others.3, counted_tests c.args.listed.now c.in_ok-column.column c.in_ok-column.ensures.holds.counted) in
    let all = taken_all test_row tests c.loop-position.position end in (
      others.0,
      others.1,
      λ background tree is of_default of_binaries.
          subst (λ (rows : List TestRow). Pieces (TestLine background tree row) rows others.0) all (others.2 background tree is of_default of_binaries),
    )
