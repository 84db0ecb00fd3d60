use Rattle.std.proofs.Common.{rules, arith, ◌≡◌, ◌<◌, length, get_or, map, refl, string_bytes, subst, sym, take}
use Rattle.filterset_answers.specs.Answers.{TextFaults, no_texts}
use Rattle.filterset_answers.proofs.AnswersLemmas.{FaultsOf-push, next_number, number_of, one_if-le}
use Rattle.filterset_asking.proofs.FormattingLemmas.{FormattedLines-next}
use Rattle.filterset_entries.specs.Checked.{HasReadingFaults, text_row}
use Rattle.filterset_entries.proofs.RowsLemmas.{rows_more}
use Rattle.filterset_json.specs.Pieces.{no_pieces}
use Rattle.filterset_asking.proofs.formatting.rewrite_texts.Goals as goal

pub loop-i-preserved : goal.loop-i-preserved
loop-i-preserved c =
    let (bound, are_lines, are_pieces) = c.loop-i.invariant in
    let (line, piece, line_added, piece_added, is_line, is_piece) = c.in_ok-has.ensures in
    let form = c.args.form in
    let texts = c.args.texts.now in
    let i = c.loop-i.i in
    let entry = c.index-texts-i.result in
    let has = c.in_ok-has.has in
    let written = c.loop-i.written in
    let lt : i < length texts = omega (arith, c.loop-i-test.true) in
    let at : get_or texts i entry ≡ entry = search (rules, c.index-texts-i.is) in
    let one = subst (λ n. TextFaults HasReadingFaults form n (text_row entry) has piece) (sym (next_number text_row texts i lt)) is_piece in
    let more = FaultsOf-push HasReadingFaults form 1 (map text_row (take i texts)) (text_row entry) c.loop-i.faulty has (string_bytes written.faults) piece are_pieces one in
    let lines = FormattedLines-next c.args.rewriting (map text_row (take i texts)) (text_row entry) (string_bytes written.lines) line c.loop-i.faulty has are_lines is_line in (
      omega (arith, bound, c.from-faulty.ensures, number_of has, one_if-le has),
      rw (line_added, c.from-faulty.ensures, number_of has, rows_more text_row texts i entry lt at) lines,
      rw (piece_added, c.from-faulty.ensures, number_of has, rows_more text_row texts i entry lt at) more,
    )

pub loop-i-init : goal.loop-i-init
loop-i-init c = (omega arith, λ none. rw c.new.ensures.bytes no_pieces, rw c.new-2.ensures.bytes no_texts)
