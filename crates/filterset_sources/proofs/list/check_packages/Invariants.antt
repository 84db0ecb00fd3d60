use Rattle.std.proofs.Common.{take}
use Rattle.std.specs.Prelude.{All}
use Rattle.filterset_graph.specs.Packages.{ids}
use Rattle.filterset_sources.specs.Suites.{IsOfPackage}
use Rattle.filterset_sources.proofs.list.check_packages.Given as goal

abbrev pub invariant-loop-suite : goal.invariant-loop-suite
invariant-loop-suite l = All (IsOfPackage (ids l.graph)) (take l.suite-index l.list.suites.items)
