use Rattle.std.proofs.Common.{◌≡◌, take}
use Rattle.filterset_texts.specs.Places.{places_of, row_of}
use Rattle.filterset_texts.proofs.places.list_places.Given as goal

abbrev pub invariant-loop-condition : goal.invariant-loop-condition
invariant-loop-condition l = row_of l.places.items ≡ places_of (take l.condition-index l.conditions)
