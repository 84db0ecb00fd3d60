use Rattle.std.proofs.Common.{map, take, option_map}
use Rattle.serde_json.specs.View.{view}
use Rattle.filterset_entries.specs.Placements.{placement_of}
use Rattle.filterset_documents.specs.Joins.{Joins}
use Rattle.filterset_language.specs.Views.{leaf_of}
use Rattle.filterset_offers.specs.Workspaces.{workspace_row}
use Rattle.filterset_offers.specs.Unmatched.{LeafWarnings}
use Rattle.filterset_offers.proofs.unmatched.entry_warnings.Given as goal

-- the predicates so far have their warnings
abbrev pub invariant-loop-leaf : goal.invariant-loop-leaf
invariant-loop-leaf l =
    Joins (LeafWarnings (workspace_row l.asked.index.workspace) l.shown.encoding l.shown.lines.text.now (option_map placement_of l.entry.place)) (map (λ leaf. leaf_of leaf.now) (take l.leaf-index l.leaves)) (map view l.values.items)
