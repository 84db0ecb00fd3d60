use Rattle.std.proofs.Common.{◌≡◌, ◌++◌, codes, string_bytes, take}
use Rattle.std.specs.List.{flat_map}
use Rattle.filterset_loading.proofs.table.push_taken.Given as goal

-- the names so far were written
abbrev pub invariant-loop-name : goal.invariant-loop-name
invariant-loop-name l =
    string_bytes l.output ≡ string_bytes l.initial.output ++ flat_map (λ n. n.now ++ codes " ") (take l.name-index l.names)
