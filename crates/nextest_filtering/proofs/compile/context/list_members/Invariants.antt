use Rattle.std.proofs.Common.{◌≡◌, map, take, Bor}
use Rattle.filterset_graph.specs.declared.package.PackageMetadata.{PackageMetadata}
use Rattle.nextest_filtering.specs.Binaries.{members_of}
use Rattle.nextest_filtering.proofs.compile.context.list_members.Given as goal

-- the members so far
abbrev pub invariant-loop-package : goal.invariant-loop-package
invariant-loop-package l = map (λ (p : Bor PackageMetadata). p.now) l.members.items ≡ members_of (take l.package-index l.packages)
