use Rattle.std.proofs.Common.{◌≡◌, take}
use Rattle.filterset_texts.specs.Parts.{place_count}
use Rattle.filterset_texts.proofs.meeting.count_places.Given as goal

abbrev pub invariant-loop-sequence : goal.invariant-loop-sequence
invariant-loop-sequence l = l.count ≡ place_count (take l.sequence-index l.sequences)
