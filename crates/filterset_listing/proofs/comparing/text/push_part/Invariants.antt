use Rattle.std.proofs.Common.{◌≡◌, ◌++◌, length, map, string_bytes, take}
use Rattle.std.specs.List.{flat_map, sum_by}
use Rattle.filterset_listing.specs.{Comparing.tests_in, ComparisonText.named_line, ComparisonText.named_lines}
use Rattle.filterset_listing.proofs.comparing.text.push_part.Given as goal

-- the tests of the binaries so far were counted
abbrev pub invariant-loop-counted : goal.invariant-loop-counted
invariant-loop-counted l = l.count ≡ sum_by (λ d. length (tests_in l.part d)) (take l.counted-index l.all)

-- the binaries so far were written
abbrev pub invariant-loop-difference : goal.invariant-loop-difference
invariant-loop-difference l =
    string_bytes l.output ≡ string_bytes l.initial.output ++ flat_map (named_lines l.part) (take l.difference-index l.all)

-- and the tests of the binary so far
abbrev pub invariant-loop-test : goal.invariant-loop-test
invariant-loop-test l =
    string_bytes l.output ≡ string_bytes l.initial.output ++ flat_map (named_line l.id) (map (λ t. t.now) (take l.test-index l.test-items))
