use Rattle.std.proofs.Common.{map, option_map, take}
use Rattle.serde_json.specs.View.{view}
use Rattle.filterset_display.specs.Remarks.{remark_row}
use Rattle.filterset_entries.specs.Placements.{placement_of}
use Rattle.filterset_documents.specs.Diagnostics.{AreDiagnosed}
use Rattle.filterset_documents.proofs.rows.fault_values.Given as goal

-- the faults so far have their diagnostics
abbrev pub invariant-loop-fault : goal.invariant-loop-fault
invariant-loop-fault l =
    AreDiagnosed l.shown.encoding l.shown.lines.text.now (option_map placement_of l.place) (map remark_row (take l.fault-index l.faults)) (map view l.values.items)
