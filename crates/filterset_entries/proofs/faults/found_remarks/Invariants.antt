use Rattle.std.proofs.Common.{◌≡◌, map, take}
use Rattle.filterset_display.specs.Remarks.{fault_remark, remark_row}
use Rattle.filterset_entries.proofs.faults.found_remarks.Given as goal

-- the remarks on the faults so far
abbrev pub invariant-loop-fault : goal.invariant-loop-fault
invariant-loop-fault l = map remark_row l.remarks.items ≡ map fault_remark (take l.fault-index l.faults)
