use Rattle.std.proofs.Common.{◌≡◌, length, take}
use Rattle.std.specs.List.{sum_by}
use Rattle.filterset_listing.specs.Listing.{uncounted_of}
use Rattle.filterset_listing.proofs.listing.text.uncounted_count.Given as goal

-- the tests of the binaries so far were counted
abbrev pub invariant-loop-picks : goal.invariant-loop-picks
invariant-loop-picks l = l.count ≡ sum_by (λ s. length (uncounted_of s)) (take l.picks-index l.all)
