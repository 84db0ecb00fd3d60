use Rattle.std.proofs.Common.{◌≤◌, ◌-◌, Bor, Contains, length}
use Rattle.std.specs.Str.Iter.{HasSubslice}
use Rattle.filterset_graph.specs.declared.package.PackageMetadata.{PackageMetadata}
use Rattle.nextest_filtering.specs.Joined.{name_of}
use Rattle.nextest_filtering.proofs.NameHits.{AllBefore}
use Rattle.nextest_filtering.proofs.compile.members.Members.list_containing.Given as goal

abbrev pub decreases-loop-hit : goal.decreases-loop-hit
decreases-loop-hit l = length l.self.packages.items - l.next

abbrev pub invariant-loop-hit : goal.invariant-loop-hit
invariant-loop-hit l = record {
  place : l.next ≤ length l.self.packages.items;
  some : (p : Bor PackageMetadata) → Contains l.found.items p → Contains l.self.packages.items p × HasSubslice (name_of p) l.text;
  all : AllBefore l.text l.self.packages.items l.next l.found.items;
}
