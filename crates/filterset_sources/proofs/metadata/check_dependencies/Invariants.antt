use Rattle.std.proofs.Common.{take}
use Rattle.std.specs.Prelude.{All}
use Rattle.filterset_sources.specs.Metadata.{IsKnown}
use Rattle.filterset_sources.proofs.metadata.check_dependencies.Given as goal

abbrev pub invariant-loop-link : goal.invariant-loop-link
invariant-loop-link l = All (λ d. IsKnown l.known d.package) (take l.link l.dependencies)
