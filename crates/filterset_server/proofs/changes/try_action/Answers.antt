use Rattle.std.proofs.Common.{Some, arith, ap, false, length, map, refl, string_bytes, true}
use Rattle.std.proofs.{lemmas.List.length-map, Math.ListN.length-set}
use Rattle.serde_json.specs.View.{view}
use Rattle.filterset_display.specs.declared.edits.Change.{Change}
use Rattle.filterset_entries.specs.Checked.{text_row}
use Rattle.filterset_server.specs.Changes.{texts_of}
use Rattle.filterset_server.proofs.ActionLemmas.{now_of, text_in}
use Rattle.filterset_server.proofs.changes.try_action.Goals as goal

pub becomes-requires : goal.becomes-requires
becomes-requires c =
    let target = c.args.target.now in
    let entries = target.subject.now.content.entries.now in
    let texts = c.in_ok-texts.texts.items in
    omega (
      arith,
      ap length c.as_slice.ensures.value,
      ap length c.in_ok-texts.ensures,
      length-map texts now_of,
      length-set (texts_of (map text_row entries)) target.at c.args.new.now,
      length-map (map text_row entries) text_in,
      length-map entries text_row,
    )

pub returns-then-branch : goal.returns-then-branch
returns-then-branch c =
    let change : Change = record { range = Some c.range_of-range.result; text = c.in_ok-text.text } in
    let changed = rw c.from_ref-changes.ensures.value at c.in_ok-after.ensures in
    let becomes = rw (c.as_slice.ensures.value, c.in_ok-texts.ensures, c.as_str.ensures.value, c.if-branch.true) at c.in_ok-becomes.ensures in (
      change,
      c.range_of-range.result,
      true,
      rw c.changed_span.ensures at c.range_of-range.ensures,
      refl,
      c.in_ok-text.ensures,
      (string_bytes c.in_ok-after.after, changed, becomes),
      (map view c.in_ok-diagnostics.diagnostics.items, c.in_ok-diagnostics.ensures, rw c.as_str-text.ensures.value at c.in_ok-action.ensures),
    )

pub returns : goal.returns
returns c =
    let change : Change = record { range = Some c.range_of-range.result; text = c.in_ok-text.text } in
    let changed = rw c.from_ref-changes.ensures.value at c.in_ok-after.ensures in
    let becomes = rw (c.as_slice.ensures.value, c.in_ok-texts.ensures, c.as_str.ensures.value, c.if-branch.false) at c.in_ok-becomes.ensures in (
      change,
      c.range_of-range.result,
      false,
      rw c.changed_span.ensures at c.range_of-range.ensures,
      refl,
      c.in_ok-text.ensures,
      (string_bytes c.in_ok-after.after, changed, becomes),
      refl,
    )
