use Rattle.std.proofs.Common.{◌≡◌, ◌+◌, ◌/◌, ◌-◌, length, vec_len}
use Rattle.std.specs.Str.Iter.{HasSubslice}
use Rattle.filterset_record.specs.{Columns.names_of, Hits.IsPlace, Searching.AnsweredSoFar}
use Rattle.filterset_record.proofs.search.find_some_text.Given as goal

abbrev pub decreases-loop-hit : goal.decreases-loop-hit
decreases-loop-hit l = length (names_of l.names) - l.place.position

abbrev pub invariant-loop-hit : goal.invariant-loop-hit
invariant-loop-hit l = record {
  room : vec_len l.bits.words ≡ length (names_of l.names) / 64 + 1;
  place : IsPlace l.names l.place;
  answered : AnsweredSoFar l.bits.words.items (names_of l.names) (λ position name. HasSubslice name.now l.value) l.place.position;
}
