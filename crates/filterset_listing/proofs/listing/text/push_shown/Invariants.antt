use Rattle.std.proofs.Common.{◌≡◌, ◌++◌, codes, string_bytes, take}
use Rattle.std.specs.List.{flat_map}
use Rattle.filterset_listing.specs.ListText.{unknown_line}
use Rattle.filterset_listing.proofs.listing.text.push_shown.Given as goal

-- the tests so far were written
abbrev pub invariant-loop-test : goal.invariant-loop-test
invariant-loop-test l = string_bytes l.output
    ≡ string_bytes l.initial.output ++ flat_map (λ t. codes "    " ++ (t.now ++ codes "\n")) (take l.test-index l.test-items)

-- the unknown tests so far were written
abbrev pub invariant-loop-unknown : goal.invariant-loop-unknown
invariant-loop-unknown l =
    string_bytes l.output ≡ string_bytes l.initial.output ++ flat_map unknown_line (take l.unknown-index l.unknown-items)
