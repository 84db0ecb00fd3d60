use Rattle.std.proofs.Common.{arith, ◌<◌, length}
use Rattle.filterset_entries.proofs.RowsLemmas.{given_entry}
use Rattle.filterset_entries.proofs.entries.given_entries.Goals as goal

pub loop-i-preserved : goal.loop-i-preserved
loop-i-preserved c =
    let texts = c.args.texts.now in
    let i = c.loop-i.i in
    let lt : i < length texts = omega (arith, c.loop-i-test.true) in
    rw c.in_ok-push.ensures.items
    (given_entry c.args.word.now c.args.kind texts i _ c.loop-i.entries.items _ lt c.loop-i.invariant c.in_ok-numbered_entry.ensures)
