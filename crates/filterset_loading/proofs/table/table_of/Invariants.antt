use Rattle.std.proofs.Common.{◌≡◌, ◌++◌, string_bytes, take}
use Rattle.std.specs.List.{flat_map}
use Rattle.filterset_loading.specs.Table.{command_text}
use Rattle.filterset_loading.proofs.table.table_of.Given as goal

-- the commands so far were written
abbrev pub invariant-loop-below : goal.invariant-loop-below
invariant-loop-below l =
    string_bytes l.text ≡ string_bytes l.initial.text ++ flat_map command_text (take l.below-index l.commands)
