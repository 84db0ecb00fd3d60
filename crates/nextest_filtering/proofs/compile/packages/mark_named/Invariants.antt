use Rattle.std.proofs.Common.{◌≡◌, ◌<◌, ◌↔◌, ℕ, length}
use Rattle.filterset_graph.specs.Walks.{IsMarked}
use Rattle.filterset_matchers.specs.Matchers.{matcher_of}
use Rattle.nextest_filtering.specs.PackageMarks.{IsNamedAt}
use Rattle.nextest_filtering.proofs.compile.packages.mark_named.Given as goal

-- there is a mark for each package so far
abbrev pub invariant-loop-package : goal.invariant-loop-package
invariant-loop-package l = record {
  counted : length l.marks.items ≡ l.package-index;
  marked : (k : ℕ) → IsMarked l.marks.items k ↔ ((k < l.package-index) × IsNamedAt l.packages (matcher_of l.matcher) k);
}
