use Rattle.std.proofs.Common.{Bor, Contains, ℕ, ◌<◌, [], get_or, map}
use Rattle.std.specs.Str.Iter.{HasSubslice}
use Rattle.filterset_graph.specs.declared.package.PackageMetadata.{PackageMetadata}
use Rattle.nextest_filtering.specs.Joined.{name_of}
use Rattle.nextest_filtering.proofs.compile.candidates.list_candidates.Given as goal

-- packages were found, and among them all whose names contain one of the texts so far
abbrev pub invariant-loop-text : goal.invariant-loop-text
invariant-loop-text l = record {
  some : (p : Bor PackageMetadata) → Contains l.found.items p → Contains l.members.packages.items p;
  all : (k : ℕ) → k < l.text-index → (p : Bor PackageMetadata) → Contains l.members.packages.items p
      → HasSubslice (name_of p) (get_or (map (λ t. t.items) l.text-items) k []) → Contains l.found.items p;
}
