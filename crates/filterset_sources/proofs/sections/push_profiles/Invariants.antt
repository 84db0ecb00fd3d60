use Rattle.std.proofs.Common.{◌≡◌, ◌+◌, ◌++◌, length}
use Rattle.toml.specs.View.{members_view}
use Rattle.filterset_sources.specs.Sections.{member_sections, section_rows}
use Rattle.filterset_sources.proofs.sections.push_profiles.Given as goal

-- the sections of the other profiles are left
abbrev pub invariant-loop-at : goal.invariant-loop-at
invariant-loop-at l = record {
  count : l.at + length l.name-iterator ≡ length l.initial.name-iterator;
  rows : section_rows l.output.items ++ member_sections l.at (members_view l.name-iterator)
      ≡ section_rows l.initial.output.items ++ member_sections 0 (members_view l.initial.name-iterator);
}
