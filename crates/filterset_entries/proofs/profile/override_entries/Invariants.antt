use Rattle.std.proofs.Common.{take}
use Rattle.std.specs.List.{AllZip}
use Rattle.filterset_entries.specs.Profile.{IsEntryOf}
use Rattle.filterset_entries.proofs.profile.override_entries.Given as goal

-- an entry for each override so far
abbrev pub invariant-loop-one : goal.invariant-loop-one
invariant-loop-one l = AllZip (IsEntryOf l.configured) (take l.one-index l.ranked) l.entries.items
