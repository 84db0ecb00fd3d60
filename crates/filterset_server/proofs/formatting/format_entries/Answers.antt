use Rattle.std.proofs.Common.{rules, arith, ◌≡◌, ◌<◌, length, get_or, string_bytes}
use Rattle.std.proofs.lemmas.List.{take_all}
use Rattle.filterset_entries.specs.Checked.{text_row}
use Rattle.filterset_server.specs.Formatting.{IsFormatted}
use Rattle.filterset_documents.proofs.JoinLemmas.{Zips-rows}
use Rattle.filterset_server.proofs.formatting.format_entries.Goals as goal

pub returns : goal.returns
returns c =
    let are = c.loop-entry.invariant in
    rw (take_all c.loop-entry.entry-index c.args.entries.now c.loop-entry-test.false) at are

pub loop-entry-preserved : goal.loop-entry-preserved
loop-entry-preserved c =
    let entries = c.args.entries.now in
    let i = c.loop-entry.entry-index in
    let entry = c.entry-item.result in
    let lt : i < length entries = omega (arith, c.loop-entry-test.true) in
    let at : get_or entries i entry ≡ entry = search (rules, c.entry-item.is) in
    rw c.in_ok-push.ensures.items
    (Zips-rows IsFormatted text_row (λ s. string_bytes s) entries i entry c.loop-entry.texts.items _ lt at c.loop-entry.invariant c.in_ok-format_entry.ensures)
