use Rattle.std.proofs.Common.{◌↔◌, ℕ, Contains, List}
use Rattle.nextest_filtering.specs.PackageMarks.{IsMarkedMemberAt}
use Rattle.nextest_filtering.proofs.PackageSets.{IsGivenBefore}
use Rattle.nextest_filtering.proofs.compile.packages.collect_marked.Given as goal

-- the ids are those of such packages so far
abbrev pub invariant-loop-index : goal.invariant-loop-index
invariant-loop-index l =
    (id : List ℕ) → Contains l.ids.items id ↔ IsGivenBefore (IsMarkedMemberAt l.packages l.marks) l.index id
