use Rattle.std.proofs.Common.{◌≡◌, drop, map}
use Rattle.filterset_configuration.specs.{PlatformTrees.setting_of, PlatformValues.is_set}
use Rattle.filterset_configuration.proofs.platforms.facts.is_among.Given as goal

abbrev pub invariant-loop-other : goal.invariant-loop-other
invariant-loop-other l =
    is_set (map setting_of (drop l.other-index l.settings)) (setting_of l.setting) ≡ is_set (map setting_of l.settings) (setting_of l.setting)
