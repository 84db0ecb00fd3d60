use Rattle.std.proofs.Common.{◌≡◌, ◌≤◌, ℕ, List, length, take}
use Rattle.std.specs.List.{All}
use Rattle.filterset_texts.specs.{Parts.IsMetBy, Parts.all_place_count, Places.LeadsTo, Places.places_of}
use Rattle.filterset_texts.proofs.meeting.are_met.Given as goal

abbrev pub invariant-loop-condition : goal.invariant-loop-condition
invariant-loop-condition l = record {
  first : l.first ≡ all_place_count (take l.condition-index l.conditions);
  within : l.first ≤ length l.marks;
  met : (text : List ℕ) → LeadsTo (places_of l.conditions) text l.marks
      → All (IsMetBy text) (take l.condition-index l.conditions);
}
