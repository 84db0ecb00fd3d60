use Rattle.std.proofs.Common.{◌≡◌, [], length}
use Rattle.filterset_texts.specs.Places.{row_of}
use Rattle.filterset_texts.proofs.Marking.{IsMarkedTo}
use Rattle.filterset_texts.proofs.marks.mark_start.Given as goal

abbrev pub invariant-loop-place : goal.invariant-loop-place
invariant-loop-place l = record {
  counted : length l.marks.items ≡ l.place-index;
  marked : IsMarkedTo (row_of l.places) [] l.place-index l.reached l.marks.items;
}
