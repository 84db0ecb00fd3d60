use Rattle.std.proofs.Common.{◌≡◌, ◌++◌, drop}
use Rattle.std.specs.Prelude.{flat_map}
use Rattle.filterset_configuration.specs.Keys.{key_rows, section_keys}
use Rattle.filterset_sources.specs.Sections.{section_rows}
use Rattle.filterset_configuration.proofs.keys.found_keys.Given as goal

-- the keys of the other sections are left
abbrev pub invariant-loop-section : goal.invariant-loop-section
invariant-loop-section l =
    key_rows l.output.items ++ flat_map section_keys (section_rows (drop l.section-index l.section-items))
    ≡ flat_map section_keys (section_rows l.section-items)
