use Rattle.std.specs.Prelude.{take, string_bytes}
use Rattle.filterset_glob.specs.Tokens.{tokens_of}
use Rattle.filterset_matchers.specs.Literals.{EndsEach, StandsInEach}
use Rattle.filterset_matchers.proofs.matcher.glob.find_longest_literal.Given as goal

-- each text that the tokens so far match ends in the run, and the longest run stands in it
abbrev pub invariant-loop-token : goal.invariant-loop-token
invariant-loop-token l = record {
  ends : EndsEach (tokens_of (take l.token-index l.tokens)) (string_bytes l.run);
  stands : StandsInEach (tokens_of (take l.token-index l.tokens)) (string_bytes l.longest);
}
