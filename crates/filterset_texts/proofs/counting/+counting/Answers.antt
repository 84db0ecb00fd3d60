use Rattle.std.proofs.Common.{arith, ◌≡◌, ◌+◌, ◌-◌, ◌^◌, ◌∷◌, [], ap, drop, max, rules}
use Rattle.std.proofs.lemmas.List.{drop_all}
use Rattle.filterset_glob.specs.Tokens.{branches_of, token_of, tokens_of}
use Rattle.filterset_glob.proofs.{Bridges.token_of_group, Items.drop_item}
use Rattle.filterset_texts.specs.Expanding.{branches_sequence_count, sequence_count, token_sequence_count}
use Rattle.filterset_texts.proofs.Capped.{capped_more}
use Rattle.filterset_texts.proofs.counting.+counting.Goals as goal

pub count_sequences-loop-token-preserved : goal.count_sequences-loop-token-preserved
count_sequences-loop-token-preserved t c =
    let tokens = c.args.tokens.now in
    let i = c.loop-token.token-index in
    let x = c.token-item.result in
    let so_far = rw (drop_item tokens i x c.loop-token-test.true c.token-item.is) at c.loop-token.invariant in
    record {
      counted = capped_more c.loop-token.count c.count_token_sequences.result c.saturating_mul-count.result (token_sequence_count (token_of x)) (sequence_count (tokens_of (drop (i + 1) tokens))) (sequence_count (tokens_of tokens)) (2 ^ 64 - 1) c.count_token_sequences.ensures c.saturating_mul-count.ensures so_far.counted;
      small = omega (arith, c.saturating_mul-count.ensures);
    }

pub count_token_sequences-returns-in-Alternates : goal.count_token_sequences-returns-in-Alternates
count_token_sequences-returns-in-Alternates t c = search (rules, arith, token_of_group)
