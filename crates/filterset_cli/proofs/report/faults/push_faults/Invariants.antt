use Rattle.std.proofs.Common.{◌≡◌, ◌++◌, string_bytes, take}
use Rattle.std.specs.List.{flat_map}
use Rattle.filterset_cli.specs.Report.{fault_lines}
use Rattle.filterset_cli.proofs.report.faults.push_faults.Given as goal

-- the lines of the faults so far were added
abbrev pub invariant-loop-fault : goal.invariant-loop-fault
invariant-loop-fault l = string_bytes l.lines ≡ string_bytes l.initial.lines ++ flat_map fault_lines (take l.fault-index l.faults)
