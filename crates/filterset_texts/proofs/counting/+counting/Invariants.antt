use Rattle.std.proofs.Common.{◌≡◌, ◌+◌, ◌*◌, ◌-◌, ◌^◌, ◌≤◌, drop, min}
use Rattle.filterset_glob.specs.Tokens.{branches_of, tokens_of}
use Rattle.filterset_texts.specs.Expanding.{branches_sequence_count, sequence_count}
use Rattle.filterset_texts.proofs.counting.+counting.Given as goal

-- the count so far, and that of the tokens that are left
abbrev pub invariant-count_sequences-loop-token : goal.invariant-count_sequences-loop-token
invariant-count_sequences-loop-token l = record {
  counted : min (l.count * sequence_count (tokens_of (drop l.token-index l.tokens))) (2 ^ 64 - 1) ≡ min (sequence_count (tokens_of l.tokens)) (2 ^ 64 - 1);
  small : l.count ≤ 2 ^ 64 - 1;
}

-- the count so far, and that of the branches that are left
abbrev pub invariant-count_branches_sequences-loop-branch : goal.invariant-count_branches_sequences-loop-branch
invariant-count_branches_sequences-loop-branch l = record {
  counted : min (l.count + branches_sequence_count (branches_of (drop l.branch-index l.branches))) (2 ^ 64 - 1) ≡ min (branches_sequence_count (branches_of l.branches)) (2 ^ 64 - 1);
  small : l.count ≤ 2 ^ 64 - 1;
}
