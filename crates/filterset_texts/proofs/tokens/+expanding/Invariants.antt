use Rattle.std.proofs.Common.{◌+◌, ◌*◌, ◌≤◌, ◌⊎◌, drop, length}
use Rattle.filterset_glob.specs.{Matching.Matches, Matching.MatchesSome, Tokens.branches_of, Tokens.tokens_of}
use Rattle.filterset_texts.specs.Cuts.{HoldInTurn, HoldTogether}
use Rattle.filterset_texts.specs.{Expanding.branches_sequence_count, Expanding.sequence_count, Parts.FitsSome}
use Rattle.filterset_texts.proofs.tokens.+expanding.Given as goal

-- the sequences so far, and the tokens that are left
abbrev pub invariant-expand_tokens-loop-token : goal.invariant-expand_tokens-loop-token
invariant-expand_tokens-loop-token l = record {
  matched : HoldTogether (HoldInTurn (FitsSome l.sequences.items) (Matches (tokens_of (drop l.token-index l.tokens)))) (Matches (tokens_of l.tokens));
  count : length l.sequences.items * sequence_count (tokens_of (drop l.token-index l.tokens)) ≤ sequence_count (tokens_of l.tokens);
}

-- the sequences so far, and the branches that are left
abbrev pub invariant-expand_branches-loop-branch : goal.invariant-expand_branches-loop-branch
invariant-expand_branches-loop-branch l = record {
  matched : HoldTogether (λ text. FitsSome l.sequences.items text ⊎ MatchesSome (branches_of (drop l.branch-index l.branches)) text) (MatchesSome (branches_of l.branches));
  count : length l.sequences.items + branches_sequence_count (branches_of (drop l.branch-index l.branches)) ≤ branches_sequence_count (branches_of l.branches);
}
