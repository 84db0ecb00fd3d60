use Rattle.std.proofs.Common.{◌≡◌, ◌++◌, string_bytes, take}
use Rattle.std.specs.List.{flat_map}
use Rattle.filterset_listing.specs.ComparisonText.{id_line}
use Rattle.filterset_listing.proofs.comparing.skipped.push_skipped.Given as goal

-- the binaries so far were written
abbrev pub invariant-loop-difference : goal.invariant-loop-difference
invariant-loop-difference l =
    string_bytes l.output ≡ string_bytes l.initial.output ++ flat_map (id_line l.part) (take l.difference-index l.all)
