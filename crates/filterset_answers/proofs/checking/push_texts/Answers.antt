use Rattle.std.proofs.Common.{rules, arith, ◌≡◌, ◌<◌, [], ◌++◌, length, get_or, map, subst, sym, take}
use Rattle.filterset_answers.specs.Answers.{TextFaults, no_texts}
use Rattle.filterset_entries.specs.Checked.{HasFaults, text_row}
use Rattle.filterset_json.proofs.PieceLemmas.{added_twice}
use Rattle.filterset_answers.proofs.AnswersLemmas.{FaultsOf-push, one_if-le, next_number, number_of}
use Rattle.filterset_entries.proofs.RowsLemmas.{rows_more}
use Rattle.std.proofs.lemmas.List.{append-nil, take_all}
use Rattle.filterset_answers.proofs.checking.push_texts.Goals as goal

pub loop-i-preserved : goal.loop-i-preserved
loop-i-preserved c =
    let before = c.loop-i.invariant in
    let piece = c.in_ok-has.ensures in
    let Has = HasFaults c.args.names.now in
    let form = c.args.form in
    let texts = c.args.texts.now in
    let i = c.loop-i.i in
    let entry = c.index-texts-i.result in
    let has = c.in_ok-has.has in
    let lt : i < length texts = omega (arith, c.loop-i-test.true) in
    let at : get_or texts i entry ≡ entry = search (rules, c.index-texts-i.is) in
    let one = subst (λ n. TextFaults Has form n (text_row entry) has piece.0) (sym (next_number text_row texts i lt)) piece.2 in
    let more = FaultsOf-push Has form 1 (map text_row (take i texts)) (text_row entry) c.loop-i.faulty has before.1.0 piece.0 before.1.2 one in (
      omega (arith, before.0, c.from-faulty.ensures, number_of has, one_if-le has),
      (before.1.0 ++ piece.0, added_twice _ _ _ _ _ before.1.1 piece.1, rw (c.from-faulty.ensures, number_of has, rows_more text_row texts i entry lt at) more),
    )

pub loop-i-init : goal.loop-i-init
loop-i-init c = (omega arith, ([], sym (append-nil _), no_texts))

pub returns : goal.returns
returns c = rw (take_all c.loop-i.i c.args.texts.now c.loop-i-test.false) at c.loop-i.invariant.1
