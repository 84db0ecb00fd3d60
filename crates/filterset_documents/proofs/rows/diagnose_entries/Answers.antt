use Rattle.std.proofs.Common.{◌∙◌, [], ap, map, refl, sym}
use Rattle.std.proofs.lemmas.List.{append-nil, map-append}
use Rattle.serde_json.specs.View.{view}
use Rattle.filterset_documents.proofs.rows.diagnose_entries.Goals as goal

pub returns-in-Some : goal.returns-in-Some
returns-in-Some c =
    let faults = c.in_ok-values-in-Some.values.items in
    let warnings = c.in_ok-warnings-in-Some.warnings.items in
    let unread = c.in_ok-unread-in-Some.unread.items in
    let both = ap (map view) c.in_ok-append-in-Some.ensures.items ∙ map-append view warnings unread in
    let known = rw c.empty-graph.ensures at c.in_ok-known-in-Some.ensures.names in
    rw c.in-Some.is (
      c.in_ok-known-in-Some.known,
      map view faults,
      map view c.append.new.self.items,
      known,
      c.in_ok-values-in-Some.ensures,
      (map view warnings, map view unread, c.in_ok-warnings-in-Some.ensures, c.in_ok-unread-in-Some.ensures, both),
      ap (map view) c.in_ok-append-in-Some-2.ensures.items ∙ map-append view faults c.append.new.self.items,
    )

pub returns : goal.returns
returns c =
    let values = map view c.in_ok-diagnosed-in-None.diagnosed.items in
    let known = rw (c.empty-graph.ensures, c.new-no_groups.ensures.items) at c.in_ok-unknown-in-None.ensures.names in
    rw c.in-None.is (c.in_ok-unknown-in-None.unknown, values, [], known, c.in_ok-diagnosed-in-None.ensures, refl, sym (append-nil values))
