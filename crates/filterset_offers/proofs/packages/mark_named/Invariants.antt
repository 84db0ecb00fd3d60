use Rattle.std.proofs.Common.{◌≡◌, ◌<◌, ◌↔◌, ℕ, length}
use Rattle.filterset_graph.specs.Walks.{IsMarked}
use Rattle.filterset_matchers.specs.Matchers.{matcher_of}
use Rattle.filterset_offers.specs.ReadyMatchers.{ready_matcher}
use Rattle.nextest_filtering.specs.PackageMarks.{IsNamedAt}
use Rattle.filterset_offers.proofs.packages.mark_named.Given as goal

-- there is a mark for each package so far
abbrev pub invariant-loop-package : goal.invariant-loop-package
invariant-loop-package l =
    (ready_matcher l.ready ≡ matcher_of l.matcher)
    × (length l.marks.items ≡ l.package-index)
    × ((k : ℕ) → IsMarked l.marks.items k ↔ ((k < l.package-index) × IsNamedAt l.packages (matcher_of l.matcher) k))
