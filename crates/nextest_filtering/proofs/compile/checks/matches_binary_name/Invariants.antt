use Rattle.std.proofs.Common.{◌≡◌, take}
use Rattle.std.specs.Prelude.{All}
use Rattle.filterset_matchers.specs.{Matcher.MatchesName, Matchers.matcher_of}
use Rattle.nextest_filtering.specs.ReadyMatchers.{ready_matcher}
use Rattle.nextest_filtering.proofs.compile.checks.matches_binary_name.Given as goal

-- none so far is matched
abbrev pub invariant-loop-binary : goal.invariant-loop-binary
invariant-loop-binary l =
    (ready_matcher l.ready ≡ matcher_of l.matcher)
    × All (λ binary. ¬ MatchesName (matcher_of l.matcher) binary.name.now) (take l.binary-index l.binaries)
