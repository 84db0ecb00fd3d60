use Rattle.std.proofs.Common.{◌≡◌}
use Rattle.filterset_configuration.specs.{PlatformTrees.facts_of, PlatformValues.applies}
use Rattle.filterset_configuration.proofs.PlatformTruth.{filter_sound}
use Rattle.filterset_configuration.proofs.platforms.filter.PlatformFilter.applies.Goals as goal

pub returns-clause-sound : goal.returns-clause-sound
returns-clause-sound c = filter_sound (facts_of c.args.host.now) (facts_of c.args.target.now) c.args.self.now _ cc
