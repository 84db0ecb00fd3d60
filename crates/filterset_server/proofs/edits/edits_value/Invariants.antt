use Rattle.std.proofs.Common.{map, take}
use Rattle.std.specs.List.{AllZip}
use Rattle.serde_json.specs.View.{view}
use Rattle.filterset_server.specs.Edits.{edit_row, IsEdit}
use Rattle.filterset_server.proofs.edits.edits_value.Given as goal

-- the edits so far have their values
abbrev pub invariant-loop-edit : goal.invariant-loop-edit
invariant-loop-edit l =
    AllZip (IsEdit l.shown.encoding l.shown.lines.text.now) (map edit_row (take l.edit-index l.edits)) (map view l.values.items)
