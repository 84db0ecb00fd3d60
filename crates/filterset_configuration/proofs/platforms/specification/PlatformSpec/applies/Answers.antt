use Rattle.std.proofs.Common.{◌≡◌}
use Rattle.filterset_configuration.specs.{PlatformTrees.facts_of, PlatformTrees.spec_of, PlatformValues.spec_value}
use Rattle.filterset_configuration.proofs.PlatformTruth.{spec_known, spec_sound}
use Rattle.filterset_configuration.proofs.platforms.specification.PlatformSpec.applies.Goals as goal

pub returns-in-Cfg-clause-sound : goal.returns-in-Cfg-clause-sound
returns-in-Cfg-clause-sound c = spec_sound (facts_of c.args.facts.now) (spec_of c.args.self.now) _ (rw c.in-Cfg.is c.value_of.ensures)

pub returns-in-Cfg-clause-known : goal.returns-in-Cfg-clause-known
returns-in-Cfg-clause-known c = λ known.
    spec_known (facts_of c.args.facts.now) (spec_of c.args.self.now) _ (rw c.in-Cfg.is c.value_of.ensures) known
