use Rattle.std.proofs.Common.{take}
use Rattle.std.specs.List.{AllZip, filter_map}
use Rattle.filterset_answers.specs.Compiled.{Compiles, IsFilter}
use Rattle.filterset_entries.specs.Entries.{filter_row}
use Rattle.filterset_answers.proofs.compiling.compile_overrides.Given as goal

-- the filters so far were compiled
abbrev pub invariant-loop-entry : goal.invariant-loop-entry
invariant-loop-entry l =
    Compiles l.compiler (filter_map filter_row (take l.entry-index l.overrides)) l.initial.log l.log (AllZip (IsFilter l.compiler) (take l.entry-index l.overrides) l.filters.items)
