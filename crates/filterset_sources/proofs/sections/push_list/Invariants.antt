use Rattle.std.proofs.Common.{◌≡◌, ◌++◌, [], drop}
use Rattle.std.specs.{Prelude.option_and_then, Option.option_map_or}
use Rattle.toml.specs.{Data.as_array, Data.get, View.items_view, View.view}
use Rattle.filterset_sources.specs.Sections.{item_sections, section_rows}
use Rattle.filterset_sources.proofs.sections.push_list.Given as goal

-- the other items are left
abbrev pub invariant-loop-at : goal.invariant-loop-at
invariant-loop-at l =
    section_rows l.output.items ++ item_sections l.kind l.list l.at-counter (items_view (drop l.at-counter l.value-items))
    ≡ section_rows l.initial.output.items
    ++ option_map_or (item_sections l.kind l.list 0) (option_and_then as_array (get l.key (view l.profile))) []
