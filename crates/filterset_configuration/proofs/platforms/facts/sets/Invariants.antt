use Rattle.std.proofs.Common.{◌≡◌, drop, map}
use Rattle.filterset_configuration.specs.{PlatformTrees.setting_of, PlatformValues.sets}
use Rattle.filterset_configuration.proofs.platforms.facts.sets.Given as goal

abbrev pub invariant-loop-setting : goal.invariant-loop-setting
invariant-loop-setting l = sets (map setting_of (drop l.setting-index l.settings)) l.word ≡ sets (map setting_of l.settings) l.word
