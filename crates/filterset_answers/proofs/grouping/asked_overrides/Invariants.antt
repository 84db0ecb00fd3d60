use Rattle.std.proofs.Common.{length, take}
use Rattle.std.specs.List.{AllZip}
use Rattle.filterset_answers.specs.Compiled.{IsFilterFor, IsAskedFor}
use Rattle.filterset_entries.specs.declared.setting.Setting.{Setting}
use Rattle.filterset_answers.proofs.grouping.asked_overrides.Given as goal

-- the overrides so far have their filters
abbrev pub invariant-loop-entry : goal.invariant-loop-entry
invariant-loop-entry l = (setting : Setting) → AllZip (IsFilterFor setting.graph.now setting.groups.now) l.entries l.filters
    → AllZip (IsAskedFor setting) (take (length l.yielded) l.entries) l.asked.items
