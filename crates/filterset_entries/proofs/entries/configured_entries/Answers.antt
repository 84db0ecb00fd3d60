use Rattle.std.proofs.Common.{rules, arith, ◌≡◌, ◌<◌, ◌∙◌, ap, length, get_or}
use Rattle.filterset_entries.specs.Entries.{file_row, placed_row}
use Rattle.filterset_entries.proofs.RowsLemmas.{next_entry}
use Rattle.filterset_entries.proofs.entries.configured_entries.Goals as goal

pub loop-i-preserved : goal.loop-i-preserved
loop-i-preserved c =
    let texts = c.args.configured in
    let filtersets = texts.filtersets.now in
    let i = c.loop-i.i in
    let filterset = c.filterset-item.result in
    let lt : i < length filtersets = omega (arith, c.loop-i-test.true) in
    let at : get_or filtersets i filterset ≡ filterset = search (rules, c.filterset-item.is) in
    rw c.in_ok-push.ensures.items
    (next_entry (placed_row texts) filtersets i filterset c.loop-i.entries.items _ lt at c.loop-i.invariant
    (c.in_ok-configured_entry.ensures ∙ ap (λ p. file_row p filterset) c.place_at-place.ensures))
