use Rattle.std.proofs.Common.{map, take}
use Rattle.std.specs.List.{AllZip}
use Rattle.filterset_entries.specs.Checked.{text_row}
use Rattle.filterset_answers.specs.Compiled.{Compiles, IsMade}
use Rattle.filterset_answers.proofs.compiling.compile_filters.Given as goal

-- the texts so far were compiled
abbrev pub invariant-loop-entry : goal.invariant-loop-entry
invariant-loop-entry l = Compiles l.compiler (map text_row (take l.entry-index l.entries)) l.initial.log l.log (AllZip (IsMade l.compiler) (map text_row (take l.entry-index l.entries)) l.filtersets.items)
