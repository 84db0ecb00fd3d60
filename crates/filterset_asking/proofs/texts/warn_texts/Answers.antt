use Rattle.std.proofs.Common.{rules, arith, ◌≡◌, ◌+◌, ◌<◌, [], ◌++◌, length, get_or, map, subst, sym, take}
use Rattle.std.proofs.lemmas.List.{append-nil}
use Rattle.filterset_entries.specs.Checked.{text_row}
use Rattle.filterset_entries.proofs.RowsLemmas.{rows_more}
use Rattle.filterset_answers.proofs.AnswersLemmas.{next_number}
use Rattle.filterset_json.proofs.PieceLemmas.{added_twice}
use Rattle.filterset_asking.specs.{Contexts.basis_of, Warnings.TextWarnings, Warnings.no_texts}
use Rattle.filterset_asking.proofs.WarningLemmas.{WarningsOf-push}
use Rattle.filterset_asking.proofs.texts.warn_texts.Goals as goal

pub loop-i-preserved : goal.loop-i-preserved
loop-i-preserved c =
    let before = c.loop-i.invariant in
    let piece = c.in_ok-more.ensures in
    let cx = c.args.cx.now in
    let groups = cx.known_groups.now in
    let subjects = cx.subjects.items in
    let texts = c.args.texts.now in
    let i = c.loop-i.i in
    let entry = c.index-texts-i.result in
    let more = c.in_ok-more.more in
    let lt : i < length texts = omega (arith, c.loop-i-test.true) in
    let sum : c.in_ok-count.count ≡ c.loop-i.count + more = search rules in
    let at : get_or texts i entry ≡ entry = search (rules, c.index-texts-i.is) in
    let one = subst (λ n. TextWarnings cx.form groups (basis_of cx) subjects n (text_row entry) more piece.0) (sym (next_number text_row texts i lt)) piece.2 in
    let all = WarningsOf-push cx.form groups (basis_of cx) subjects 1 (map text_row (take i texts)) (text_row entry) c.loop-i.count more before.0 piece.0 before.2 one in
    (before.0 ++ piece.0, added_twice _ _ _ _ _ before.1 piece.1, rw (sum, rows_more text_row texts i entry lt at) all)

pub loop-i-init : goal.loop-i-init
loop-i-init c = ([], sym (append-nil _), no_texts)
