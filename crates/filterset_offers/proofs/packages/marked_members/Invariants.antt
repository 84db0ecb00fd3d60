use Rattle.std.proofs.Common.{map, take}
use Rattle.filterset_offers.specs.{Matched.package_name, Sieves.SelectsAs}
use Rattle.nextest_filtering.specs.PackageMarks.{IsMarkedMember}
use Rattle.filterset_offers.proofs.packages.marked_members.Given as goal

-- the packages so far that are marked and of the workspace
abbrev pub invariant-loop-index : goal.invariant-loop-index
invariant-loop-index l =
    SelectsAs (λ p. IsMarkedMember l.packages l.marks p.id) package_name (take l.index l.packages) (map (λ n. n.now) l.found.items)
