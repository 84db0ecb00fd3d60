use Rattle.std.proofs.Common.{◌≡◌, map, take, Bor}
use Rattle.std.specs.List.{flat_map}
use Rattle.filterset_graph.specs.declared.package.PackageMetadata.{PackageMetadata}
use Rattle.nextest_filtering.specs.Binaries.{binaries_of, name_and_id}
use Rattle.nextest_filtering.proofs.compile.context.list_binaries.Given as goal

-- the test binaries so far
abbrev pub invariant-loop-package : goal.invariant-loop-package
invariant-loop-package l =
    map name_and_id l.binaries.items ≡ flat_map binaries_of (map (λ (p : Bor PackageMetadata). p.now) (take l.package-index l.packages))
