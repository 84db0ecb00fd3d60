use Rattle.std.proofs.Common.{◌≡◌, string_bytes}
use Rattle.std.specs.Prelude.{All}
use Rattle.filterset_matchers.specs.Matcher.{MatchesName}
use Rattle.nextest_filtering.specs.ReadyMatchers.{ready_matcher}
use Rattle.nextest_filtering.proofs.compile.checks.matches_custom_group.Given as goal

-- none so far is matched
abbrev pub invariant-loop-name : goal.invariant-loop-name
invariant-loop-name l =
    (ready_matcher l.ready ≡ ready_matcher l.initial.ready)
    × All (λ name. ¬ MatchesName (ready_matcher l.initial.ready) (string_bytes name.now)) l.yielded
