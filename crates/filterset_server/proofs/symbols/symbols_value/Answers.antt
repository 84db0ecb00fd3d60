use Rattle.std.proofs.Common.{rules, arith, ◌≡◌, ◌<◌, length, get_or, map}
use Rattle.std.proofs.lemmas.List.{take_all}
use Rattle.serde_json.specs.{View.view, declared.value.Value.the_lemmas}
use Rattle.filterset_entries.specs.Checked.{text_row}
use Rattle.filterset_server.specs.Symbols.{IsSymbol}
use Rattle.filterset_documents.proofs.JoinLemmas.{Zips-rows}
use Rattle.filterset_server.proofs.symbols.symbols_value.Goals as goal

pub returns : goal.returns
returns c =
    let are = c.loop-entry.invariant in
    (map view c.loop-entry.values.items, rw (take_all c.loop-entry.entry-index c.args.entries.now c.loop-entry-test.false) at are, search (rules, the_lemmas))

pub loop-entry-preserved : goal.loop-entry-preserved
loop-entry-preserved c =
    let shown = c.args.shown.now in
    let entries = c.args.entries.now in
    let i = c.loop-entry.entry-index in
    let entry = c.entry-item.result in
    let lt : i < length entries = omega (arith, c.loop-entry-test.true) in
    let at : get_or entries i entry ≡ entry = search (rules, c.entry-item.is) in
    let named = rw c.as_str.ensures.value at c.in_ok-symbol_value.ensures in
    rw c.in_ok-push.ensures.items
    (Zips-rows (IsSymbol shown.encoding shown.lines.text.now) text_row view entries i entry c.loop-entry.values.items _
    lt at c.loop-entry.invariant (c.range_of-range.result, rw c.place_span.ensures at c.range_of-range.ensures, named))
