use Rattle.std.proofs.Common.{rules, arith, ◌≡◌, ◌<◌, length, get_or}
use Rattle.std.proofs.lemmas.List.{take_all, Sorted.IsNonDecreasingBy-from_sort_by_key}
use Rattle.filterset_entries.specs.Checked.{text_row}
use Rattle.filterset_documents.specs.Joins.{no_parts}
use Rattle.filterset_documents.proofs.JoinLemmas.{Joins-rows}
use Rattle.filterset_server.specs.{Highlights.RowMarks, declared.highlighting.Mark.Mark}
use Rattle.filterset_server.proofs.highlighting.ordered_marks.Goals as goal

pub returns : goal.returns
returns c =
    let are = c.loop-entry.invariant in
    let sorted = c.sort_unstable_by_key.new.self.items in (
      c.loop-entry.marks.items,
      rw (take_all c.loop-entry.entry-index c.args.entries.now c.loop-entry-test.false) at are,
      c.sort_unstable_by_key.ensures.permutation,
      IsNonDecreasingBy-from_sort_by_key (λ (mark : Mark). mark.from) sorted c.sort_unstable_by_key.ensures.sorted (λ a r q k. search rules),
    )

pub loop-entry-init : goal.loop-entry-init
loop-entry-init c = rw c.new-marks.ensures.items no_parts

pub loop-entry-preserved : goal.loop-entry-preserved
loop-entry-preserved c =
    let shown = c.args.shown.now in
    let entries = c.args.entries.now in
    let i = c.loop-entry.entry-index in
    let entry = c.entry-item.result in
    let lt : i < length entries = omega (arith, c.loop-entry-test.true) in
    let at : get_or entries i entry ≡ entry = search (rules, c.entry-item.is) in
    rw c.in_ok-append.ensures.items
    (Joins-rows (RowMarks shown.encoding shown.lines.text.now) text_row entries i entry
    c.loop-entry.marks.items c.in_ok-more.more.items lt at c.loop-entry.invariant c.in_ok-more.ensures)
