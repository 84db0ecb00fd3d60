use Rattle.std.proofs.Common.{◌≡◌, ◌↔◌, ℕ, Contains, List}
use Rattle.filterset_matchers.specs.Matchers.{matcher_of}
use Rattle.nextest_filtering.specs.{ReadyMatchers.ready_matcher, PackageMarks.IsMatchAt}
use Rattle.nextest_filtering.proofs.PackageSets.{IsGivenBefore}
use Rattle.nextest_filtering.proofs.compile.packages.select_among.Given as goal

-- the ids are those of such packages so far
abbrev pub invariant-loop-package : goal.invariant-loop-package
invariant-loop-package l =
    (ready_matcher l.ready ≡ matcher_of l.matcher)
    × ((id : List ℕ) → Contains l.ids.items id ↔ IsGivenBefore (IsMatchAt l.packages (matcher_of l.matcher)) l.package-index id)
