use Rattle.std.proofs.Common.{◌≡◌, ◌++◌, List, drop}
use Rattle.std.specs.Prelude.{flat_map}
use Rattle.filterset_configuration.specs.Wrong.{ValueRow, own_values, value_rows}
use Rattle.filterset_sources.specs.Sections.{SectionRow, section_rows}
use Rattle.filterset_configuration.proofs.walking.values_of.Given as goal

-- the values of the other sections are left
abbrev pub invariant-loop-section : goal.invariant-loop-section
invariant-loop-section l =
    let own : SectionRow → List ValueRow = λ s. own_values s.kind s.path s.value in
    value_rows l.walk.values.items ++ flat_map own (section_rows (drop l.section-index l.section-items)) ≡ flat_map own (section_rows l.section-items)
