use Rattle.std.proofs.Common.{◌≡◌, drop}
use Rattle.filterset_configuration.specs.Ranking.{first_default}
use Rattle.filterset_configuration.proofs.defaults.first_default.Given as goal

abbrev pub invariant-loop-one : goal.invariant-loop-one
invariant-loop-one l = first_default (drop l.one-index l.ranked) ≡ first_default l.ranked
