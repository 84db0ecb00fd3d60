use Rattle.std.proofs.Common.{◌≡◌, ◌++◌, map, string_bytes, take}
use Rattle.std.specs.List.{flat_map}
use Rattle.filterset_offers.specs.Matches.{name_line}
use Rattle.filterset_offers.proofs.matches.shortlist_text.Given as goal

-- the lines of the names so far
abbrev pub invariant-loop-name : goal.invariant-loop-name
invariant-loop-name l =
    string_bytes l.text ≡ string_bytes l.initial.text ++ flat_map name_line (map (λ n. n.now) (take l.name-index l.names))
