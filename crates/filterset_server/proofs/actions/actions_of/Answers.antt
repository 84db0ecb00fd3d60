use Rattle.std.proofs.Common.{◌≡◌, ◌<◌, ap, arith, length, map, option_map, refl, ℕ, subst, ◌∙◌}
use Rattle.std.proofs.lemmas.{List.length-map, Option.slice_get-map, Option.slice_get_read}
use Rattle.std.specs.List.{range_with_len}
use Rattle.serde_json.specs.View.{view}
use Rattle.filterset_entries.specs.Checked.{text_row}
use Rattle.filterset_documents.specs.Joins.{Joins, no_parts}
use Rattle.filterset_server.specs.{Actions.ActionsAt, Subjects.subject_row}
use Rattle.filterset_server.proofs.ActionLemmas.{Joins-position}
use Rattle.filterset_server.proofs.actions.actions_of.Goals as goal

pub returns : goal.returns
returns c =
    let subject = subject_row c.args.subject.now in
    let Are : ℕ → Type 0 = λ n. Joins (ActionsAt subject) (range_with_len 0 n) (map view c.loop-at.values.items) in
    let same : c.loop-at.at ≡ length subject.content.rows = omega (arith, length-map c.args.subject.now.content.entries.now text_row) in
    subst Are same c.loop-at.invariant

pub loop-at-init : goal.loop-at-init
loop-at-init c = rw c.new-values.ensures.items no_parts

pub loop-at-preserved : goal.loop-at-preserved
loop-at-preserved c =
    let subject = subject_row c.args.subject.now in
    let entries = c.args.subject.now.content.entries.now in
    let entry = c.index-entries-at.result in
    let more = c.in_ok-more.more.items in
    let lt : c.loop-at.at < length entries = omega (arith, c.loop-at-test.true) in
    let got = slice_get_read entries (length entries) c.loop-at.at entry refl lt c.index-entries-at.is in
    let here : ActionsAt subject c.loop-at.at (map view more) =
    (text_row entry, slice_get-map text_row entries c.loop-at.at ∙ ap (option_map text_row) got, c.in_ok-more.ensures) in
    rw c.in_ok-append.ensures.items
    (Joins-position (ActionsAt subject) view c.loop-at.at c.loop-at.values.items more c.loop-at.invariant here)
