use Rattle.std.proofs.Common.{◌≡◌, ◌+◌, ◌/◌, length, vec_len}
use Rattle.filterset_record.specs.{Columns.names_of, Searching.AnsweredSoFar}
use Rattle.filterset_record.proofs.search.find_name.Given as goal

abbrev pub invariant-loop-position : goal.invariant-loop-position
invariant-loop-position l = record {
  room : vec_len l.bits.words ≡ length (names_of l.names) / 64 + 1;
  answered : AnsweredSoFar l.bits.words.items (names_of l.names) (λ position name. name.now ≡ l.value) l.position;
}
