use Rattle.std.proofs.Common.{map}
use Rattle.std.specs.List.{AllZip}
use Rattle.filterset_configuration.specs.{PlatformTrees.setting_of, PlatformGrammar.IsLine}
use Rattle.filterset_configuration.proofs.platforms.facts.read_lines.Given as goal

-- the lines so far are those of the settings
abbrev pub invariant-loop-line : goal.invariant-loop-line
invariant-loop-line l = AllZip IsLine (map (λ s. s.now) l.yielded) (map setting_of l.settings.items)
