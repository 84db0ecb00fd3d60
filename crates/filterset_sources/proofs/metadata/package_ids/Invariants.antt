use Rattle.std.proofs.Common.{◌≡◌, take}
use Rattle.filterset_graph.specs.Packages.{ids}
use Rattle.filterset_sources.proofs.metadata.package_ids.Given as goal

abbrev pub invariant-loop-package : goal.invariant-loop-package
invariant-loop-package l = l.all.items ≡ ids (take l.package-index l.packages)
