use Rattle.std.proofs.Common.{◌≡◌, Ok, drop}
use Rattle.filterset_sources.specs.Configurations.{all_filters, configured_rows, followed_by}
use Rattle.filterset_sources.specs.Sections.{section_rows}
use Rattle.filterset_sources.proofs.configuration.filtersets_of.Given as goal

-- the filtersets of the other sections are left
abbrev pub invariant-loop-section : goal.invariant-loop-section
invariant-loop-section l =
    followed_by (Ok (configured_rows l.filtersets.items)) (all_filters (section_rows (drop l.section-index l.sections)))
    ≡ all_filters (section_rows l.sections)
