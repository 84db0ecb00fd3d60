use Rattle.std.proofs.Common.{◌≡◌, ◌++◌, map, take}
use Rattle.std.specs.List.{filter_map}
use Rattle.nextest_filtering.specs.Binaries.{binary_of, name_and_id}
use Rattle.nextest_filtering.proofs.compile.context.push_binaries.Given as goal

-- those of the targets so far were added
abbrev pub invariant-loop-target : goal.invariant-loop-target
invariant-loop-target l =
    map name_and_id l.binaries.items ≡ map name_and_id l.initial.binaries.items ++ filter_map (binary_of l.owner) (take l.target-index l.target-items)
