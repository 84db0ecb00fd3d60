-- Why a run fails.
use Rattle.std.specs.Prelude.{ℕ, List, codes}
use Rattle.filterset_json.specs.declared.fault.RunFault.{RunFault}
use Rattle.filterset_json.specs.declared.fault.RunFault.TheVariants.{Memory, Read, Write}

-- the line for standard error
abbrev pub fault_text : RunFault → List ℕ
fault_text (Memory refused) = codes "memory refused"
fault_text Read = codes "read failed"
fault_text Write = codes "write failed"
