use Rattle.std.proofs.Common.{◌≡◌, length, take}
use Rattle.std.specs.List.{sum_by}
use Rattle.filterset_listing.specs.declared.comparing.BinaryDifference.{BinaryDifference}
use Rattle.filterset_listing.proofs.comparing.text.uncounted_count.Given as goal

-- the tests of the binaries so far were counted
abbrev pub invariant-loop-difference : goal.invariant-loop-difference
invariant-loop-difference l =
    l.count ≡ sum_by (λ (d : BinaryDifference). length d.binary.uncounted.now) (take l.difference-index l.all)
