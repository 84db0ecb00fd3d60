use Rattle.std.proofs.{Common.◌≡◌, Common.None, Common.Some, Common.map, Common.rules, lemmas.Result.IfOk-weaker}
use Rattle.std.specs.Prelude.{find}
use Rattle.serde_json.specs.declared.value.Value.{the_lemmas}
use Rattle.filterset_entries.specs.Checked.{text_row}
use Rattle.filterset_documents.specs.Filtersets.{is_row_at}
use Rattle.filterset_documents.proofs.FindLemmas.{find_seen}
use Rattle.filterset_offers.proofs.hover.hover_entries.Goals as goal

pub returns-in-Some : goal.returns-in-Some
returns-in-Some c =
    let offset = c.offset-offset.result in
    let entries = c.args.entries.now in
    let entry = c.in-Some.entry.now in
    let first : find (is_row_at offset) (map text_row entries) ≡ Some (text_row entry) =
    find_seen text_row (is_row_at offset) entries (Some entry) c.in-Some.ensures in
    IfOk-weaker c.hover_entry.result _ _ (λ value is. (offset, c.offset-offset.ensures.value, rw first is)) c.hover_entry.ensures

pub returns-in-None : goal.returns-in-None
returns-in-None c =
    let offset = c.offset-offset.result in
    let entries = c.args.entries.now in
    let first : find (is_row_at offset) (map text_row entries) ≡ None =
    find_seen text_row (is_row_at offset) entries None c.in-None.ensures in
    (offset, c.offset-offset.ensures.value, rw first (search (rules, the_lemmas)))
