use Rattle.std.proofs.Common.{◌≡◌, ◌++◌, string_bytes, take}
use Rattle.std.specs.List.{flat_map}
use Rattle.filterset_loading.specs.Table.{argument_line}
use Rattle.filterset_loading.proofs.table.push_arguments.Given as goal

-- the arguments so far were written
abbrev pub invariant-loop-argument : goal.invariant-loop-argument
invariant-loop-argument l =
    string_bytes l.output ≡ string_bytes l.initial.output ++ flat_map (argument_line l.command) (take l.argument-index l.arguments)
