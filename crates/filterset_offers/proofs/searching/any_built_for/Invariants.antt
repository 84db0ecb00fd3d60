use Rattle.std.proofs.Common.{take}
use Rattle.std.specs.Prelude.{All}
use Rattle.filterset_offers.specs.Matched.{IsBuiltFor}
use Rattle.filterset_offers.proofs.searching.any_built_for.Given as goal

-- no test binary so far is built for the platform
abbrev pub invariant-loop-suite : goal.invariant-loop-suite
invariant-loop-suite l = All (λ suite. ¬ IsBuiltFor l.platform suite) (take l.suite-index l.suites)
