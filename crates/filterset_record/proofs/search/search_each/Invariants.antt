use Rattle.std.proofs.Common.{◌≡◌, ◌↔◌, ◌+◌, ◌/◌, ℕ, IsTrue, List, length, vec_len}
use Rattle.filterset_matchers.specs.{Matcher.MatchesName, Matchers.matcher_of}
use Rattle.filterset_record.specs.{Columns.answer_of, Columns.names_of, Searching.Finds, Searching.AnsweredSoFar}
use Rattle.filterset_record.proofs.search.search_each.Given as goal

abbrev pub invariant-loop-position : goal.invariant-loop-position
invariant-loop-position l = record {
  room : vec_len l.bits.words ≡ length (names_of l.names) / 64 + 1;
  finds : (name : List ℕ) → Finds l.searcher name ↔ MatchesName (matcher_of l.matcher) name;
  answered : AnsweredSoFar l.bits.words.items (names_of l.names) (λ position name. IsTrue (answer_of l.wanted position) × MatchesName (matcher_of l.matcher) name.now) l.position;
}
