use Rattle.std.proofs.Common.{◌≡◌, length, take}
use Rattle.std.specs.List.{sum_by}
use Rattle.filterset_listing.specs.declared.listing.BinaryPicks.{BinaryPicks}
use Rattle.filterset_listing.proofs.listing.text.push_counts.Given as goal

-- the tests of the binaries so far were counted
abbrev pub invariant-loop-picks : goal.invariant-loop-picks
invariant-loop-picks l = l.tests ≡ sum_by (λ (s : BinaryPicks). length s.tests.items) (take l.picks-index l.all)
