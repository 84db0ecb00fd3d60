use Rattle.std.proofs.Common.{◌≡◌, ◌↔◌, ◌<◌, ℕ, false, length, get_or, IsTrue, None}
use Rattle.filterset_texts.specs.Places.{Admits, row_of}
use Rattle.filterset_texts.proofs.letters.mark_admitting.Given as goal

abbrev pub invariant-loop-place : goal.invariant-loop-place
invariant-loop-place l = record {
  counted : length l.marks.items ≡ l.place-index;
  each : (k : ℕ) → k < l.place-index → IsTrue (get_or l.marks.items k false) ↔ Admits (get_or (row_of l.places) k None) l.character;
}
