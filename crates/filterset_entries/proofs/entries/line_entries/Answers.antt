use Rattle.std.proofs.Common.{arith, ◌≡◌, ◌+◌, ◌++◌, ◌∙◌, ap, length, lit<, sym}
use Rattle.std.proofs.lemmas.Iterator.{YieldsList-from_zip, Consumers.YieldsList-end, Consumers.YieldsList-turn}
use Rattle.std.proofs.lemmas.Iterator.Splits.{YieldsList-from_lines, YieldsList-from_str_split}
use Rattle.std.proofs.lemmas.List.{append-nil, length_push, take_all}
use Rattle.std.specs.{Prelude.option_to_list, Str.Lines.lines}
use Rattle.filterset_entries.specs.Entries.{line_row, listed_row}
use Rattle.filterset_entries.proofs.LineLemmas.{LineTurn, line_turn, turns_long}
use Rattle.filterset_entries.proofs.RowsLemmas.{next_entries}
use Rattle.filterset_entries.proofs.entries.line_entries.Goals.{in-Some-2+in_ok-push, in_default}
use Rattle.filterset_entries.proofs.entries.line_entries.Goals as goal

pub overflow_add-from : goal.overflow_add-from
overflow_add-from c =
    let text = c.args.file.now.text.now in
    let chain = YieldsList-from_zip {s = c.into_iter-line-iterator.result} (YieldsList-from_lines text (cc)) (YieldsList-from_str_split 10 text (lit< tt) (cc) (cc) (cc)) in
    let next = YieldsList-turn chain c.loop-line.yielded c.loop-line.line-iterator c.loop-line.yielded_by c.next.result c.next.new.self (c.in-Some.line, c.in-Some.piece) c.in-Some.is c.next.ensures.steps in
    let turn : LineTurn text (length c.loop-line.yielded) c.in-Some.line.now c.in-Some.piece.now = line_turn text (length c.loop-line.yielded) (c.in-Some.line.now, c.in-Some.piece.now) next.0 next.1 in
    omega (arith, turn.fits, turn.short, c.loop-line.invariant.start)

pub overflow_add-from-in-loop-line-2 : goal.overflow_add-from-in-loop-line-2
overflow_add-from-in-loop-line-2 c =
    let text = c.args.file.now.text.now in
    let chain = YieldsList-from_zip {s = c.into_iter-line-iterator.result} (YieldsList-from_lines text (cc)) (YieldsList-from_str_split 10 text (lit< tt) (cc) (cc) (cc)) in
    let next = YieldsList-turn chain c.loop-line.yielded c.loop-line.line-iterator c.loop-line.yielded_by c.next.result c.next.new.self (c.in-Some.line, c.in-Some.piece) c.in-Some.is c.next.ensures.steps in
    let turn : LineTurn text (length c.loop-line.yielded) c.in-Some.line.now c.in-Some.piece.now = line_turn text (length c.loop-line.yielded) (c.in-Some.line.now, c.in-Some.piece.now) next.0 next.1 in
    omega (arith, turn.fits, c.loop-line.invariant.start)

pub loop-line-preserved : goal.loop-line-preserved
loop-line-preserved c =
    let file = c.args.file in
    let text = file.now.text.now in
    let i = length c.loop-line.yielded in
    let line = c.in-Some.line.now in
    let entries = c.loop-line.entries.items in
    let found = c.in_ok-entry.field-0 in
    let chain = YieldsList-from_zip {s = c.into_iter-line-iterator.result} (YieldsList-from_lines text (cc)) (YieldsList-from_str_split 10 text (lit< tt) (cc) (cc) (cc)) in
    let next = YieldsList-turn chain c.loop-line.yielded c.loop-line.line-iterator c.loop-line.yielded_by c.next.result c.next.new.self (c.in-Some.line, c.in-Some.piece) c.in-Some.is c.next.ensures.steps in
    let turn : LineTurn text i line c.in-Some.piece.now = line_turn text i (line, c.in-Some.piece.now) next.0 next.1 in
    let row = c.in_ok-entry.ensures ∙ (λ j. listed_row c.args.keeps_blank file c.args.kind (c.loop-line.invariant.count j + 1) (c.loop-line.invariant.start j + length line) line) in
    let new : c.match-branch-2.entries.items ≡ entries ++ option_to_list found = elim c.match-branch-2.branch [
      | in-Some-2+in_ok-push w ↦ rw w.in-Some-2.is (ap (λ (v : _). v.items) w.entries-is ∙ w.in_ok-push.ensures.items)
      | in_default w ↦ rw w.in_default.is (ap (λ (v : _). v.items) w.entries-is ∙ sym (append-nil entries))
    ] in
    record {
      count = rw (length_push c.loop-line.yielded (c.in-Some.line, c.in-Some.piece)) (omega (arith, c.loop-line.invariant.count));
      start = rw (length_push c.loop-line.yielded (c.in-Some.line, c.in-Some.piece)) (omega (arith, turn.next, c.loop-line.invariant.start));
      made =
          rw (length_push c.loop-line.yielded (c.in-Some.line, c.in-Some.piece))
          (next_entries (line_row c.args.keeps_blank file c.args.kind) (lines text) i line entries c.match-branch-2.entries.items found turn.within turn.at c.loop-line.invariant.made row new);
    }

pub returns : goal.returns
returns c =
    let text = c.args.file.now.text.now in
    let chain = YieldsList-from_zip {s = c.into_iter-line-iterator.result} (YieldsList-from_lines text (cc)) (YieldsList-from_str_split 10 text (lit< tt) (cc) (cc) (cc)) in
    let end = YieldsList-end chain c.loop-line.yielded c.loop-line.line-iterator c.loop-line.yielded_by c.next.result c.next.new.self c.in-None.is c.next.ensures.steps in
    let entries = c.loop-line.invariant.made in
    rw (take_all (length c.loop-line.yielded) (lines text) (omega (arith, end.1, turns_long text))) at entries
