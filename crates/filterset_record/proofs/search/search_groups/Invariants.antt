use Rattle.std.proofs.Common.{◌≡◌, ◌+◌, ◌/◌, IsTrue, length, vec_len}
use Rattle.filterset_matchers.specs.Matchers.{matcher_of}
use Rattle.filterset_record.specs.Columns.{answer_of, names_of, test_of}
use Rattle.filterset_record.specs.{Grouped.Knows, Searching.AnsweredSoFar}
use Rattle.filterset_record.proofs.search.search_groups.Given as goal

abbrev pub invariant-loop-position : goal.invariant-loop-position
invariant-loop-position g l = record {
  room : vec_len l.bits.words ≡ length (names_of l.names) / 64 + 1;
  asks : l.asked.matcher.now ≡ l.matcher;
  known : Knows l.asked;
  answered : AnsweredSoFar l.bits.words.items (names_of l.names) (λ position name. IsTrue (answer_of l.wanted position) × (goal.PlacedLookup-dyn g l.groups.now).PlacedLookup.matches_group l.groups.now.1 (test_of l.query name) (matcher_of l.matcher)) l.position;
}
