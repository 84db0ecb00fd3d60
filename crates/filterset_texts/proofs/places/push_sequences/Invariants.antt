use Rattle.std.proofs.Common.{◌≡◌, ◌++◌, take}
use Rattle.filterset_texts.specs.Places.{places_of_sequences, row_of}
use Rattle.filterset_texts.proofs.places.push_sequences.Given as goal

abbrev pub invariant-loop-sequence : goal.invariant-loop-sequence
invariant-loop-sequence l =
    row_of l.places.items ≡ row_of l.fn.places.items ++ places_of_sequences (take l.sequence-index l.sequences)
