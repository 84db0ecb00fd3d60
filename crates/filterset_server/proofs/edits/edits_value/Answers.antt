use Rattle.std.proofs.Common.{rules, arith, ◌≡◌, ◌<◌, length, get_or, map}
use Rattle.std.proofs.lemmas.List.{take_all}
use Rattle.serde_json.specs.{View.view, declared.value.Value.the_lemmas}
use Rattle.filterset_server.specs.Edits.{edit_row, IsEdit}
use Rattle.filterset_documents.proofs.JoinLemmas.{Zips-rows}
use Rattle.filterset_server.proofs.edits.edits_value.Goals as goal

pub returns : goal.returns
returns c =
    let are = c.loop-edit.invariant in
    (map view c.loop-edit.values.items, rw (take_all c.loop-edit.edit-index c.args.edits.now c.loop-edit-test.false) at are, search (rules, the_lemmas))

pub loop-edit-preserved : goal.loop-edit-preserved
loop-edit-preserved c =
    let shown = c.args.shown.now in
    let edits = c.args.edits.now in
    let i = c.loop-edit.edit-index in
    let edit = c.edit-item.result in
    let lt : i < length edits = omega (arith, c.loop-edit-test.true) in
    let at : get_or edits i edit ≡ edit = search (rules, c.edit-item.is) in
    let ranged = rw c.stretch_span.ensures at c.range_of-range.ensures in
    let valued = rw c.as_str.ensures.value at c.in_ok-edit_value.ensures in
    rw c.in_ok-push.ensures.items
    (Zips-rows (IsEdit shown.encoding shown.lines.text.now) edit_row view edits i edit c.loop-edit.values.items _
    lt at c.loop-edit.invariant (c.range_of-range.result, ranged, valued))
