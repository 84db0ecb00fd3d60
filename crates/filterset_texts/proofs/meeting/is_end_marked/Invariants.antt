use Rattle.std.proofs.Common.{◌≡◌, ℕ, List, Option, ◌++◌, take}
use Rattle.std.specs.List.{All}
use Rattle.filterset_texts.specs.{declared.part.Part.Part, Parts.Fits, Parts.place_count}
use Rattle.filterset_texts.specs.Places.{LeadsTo, places_of_sequences}
use Rattle.filterset_texts.proofs.meeting.is_end_marked.Given as goal

abbrev pub invariant-loop-sequence : goal.invariant-loop-sequence
invariant-loop-sequence l = record {
  first : l.first ≡ place_count (take l.sequence-index l.sequences);
  unfit : (more : List (Option Part)) (text : List ℕ) → LeadsTo (places_of_sequences l.sequences ++ more) text l.marks
      → All (λ sequence. Fits sequence.items text → ⊥) (take l.sequence-index l.sequences);
}
