use Rattle.std.proofs.Common.{◌≡◌, ◌++◌, take}
use Rattle.filterset_texts.specs.Places.{places_of_parts, row_of}
use Rattle.filterset_texts.proofs.places.push_parts.Given as goal

abbrev pub invariant-loop-part : goal.invariant-loop-part
invariant-loop-part l = row_of l.places.items ≡ row_of l.fn.places.items ++ places_of_parts (take l.part-index l.parts)
