use Rattle.std.proofs.Common.{arith, ◌≡◌, ◌+◌, ◌≤◌, ◌∷◌, [], IfOk, drop, length, subst, sym, rules}
use Rattle.std.specs.declared.{vec.Vec.Vec, alloc.Global.Global}
use Rattle.std.proofs.{lemmas.List.drop_all, lemmas.List.length-append, lemmas.Result.IfOk-weaker, Math.Nat.le-max_left}
use Rattle.filterset_texts.specs.{declared.part.Part.Part, Cuts.HoldTogether}
use Rattle.filterset_texts.specs.Expanding.{branches_sequence_count, sequence_count, token_sequence_count}
use Rattle.filterset_texts.specs.Parts.{FitsSome}
use Rattle.filterset_texts.proofs.Rows.{count_more, group_more, row_begun, row_done, row_more}
use Rattle.filterset_glob.specs.Matching.{Matches, MatchesSome, MatchesToken}
use Rattle.filterset_glob.specs.Tokens.{Token, branches_of, token_of, tokens_of}
use Rattle.filterset_glob.proofs.{Bridges.token_of_group, Items.drop_item}
use Rattle.filterset_texts.proofs.tokens.+expanding.Goals as goal

pub expand_branches-loop-branch-preserved : goal.expand_branches-loop-branch-preserved
expand_branches-loop-branch-preserved t c =
    let branches = c.args.branches.now in
    let i = c.loop-branch.branch-index in
    let x = c.branch-item.result in
    let old = c.loop-branch.sequences.items in
    let more = c.in_ok-more.more.items in
    let items : c.deref.result.now ≡ x.tokens.items = c.deref.ensures.value in
    let so_far = rw (drop_item branches i x c.loop-branch-test.true c.branch-item.is) at c.loop-branch.invariant in
    rw c.in_ok-append.ensures.items record {
      matched = group_more old more (tokens_of x.tokens.items) (branches_of (drop (i + 1) branches)) (MatchesSome (branches_of branches)) (rw items at c.in_ok-more.ensures.matched) so_far.matched;
      count = omega (arith, length-append old more, rw items at c.in_ok-more.ensures.count, so_far.count);
    }

pub expand_token-returns-in-Alternates-clause-matched :
    goal.expand_token-returns-in-Alternates-clause-matched
expand_token-returns-in-Alternates-clause-matched t c = search (rules, arith, token_of_group)

pub expand_token-returns-in-Alternates-clause-count :
    goal.expand_token-returns-in-Alternates-clause-count
expand_token-returns-in-Alternates-clause-count t c = search (rules, arith, token_of_group, IfOk-weaker, le-max_left)

pub expand_tokens-loop-token-init : goal.expand_tokens-loop-token-init
expand_tokens-loop-token-init t c =
    rw c.in_ok-sequences.ensures.items record {
      matched = row_begun c.new.result (Matches (tokens_of c.args.tokens.now)) c.new.ensures.items;
      count = omega arith;
    }

pub expand_tokens-loop-token-preserved : goal.expand_tokens-loop-token-preserved
expand_tokens-loop-token-preserved t c =
    let tokens = c.args.tokens.now in
    let i = c.loop-token.token-index in
    let x = c.token-item.result in
    let rest = tokens_of (drop (i + 1) tokens) in
    let fronts = c.loop-token.sequences.items in
    let backs = c.in_ok-backs.backs.items in
    let joined = c.in_ok-sequences-2.sequences.items in
    let so_far = rw (drop_item tokens i x c.loop-token-test.true c.token-item.is) at c.loop-token.invariant in
    let new = rw c.deref.ensures.value at c.in_ok-sequences-2.ensures in
    record {
      matched = row_more fronts backs joined (token_of x) rest (Matches (tokens_of tokens)) c.in_ok-backs.ensures.matched new.matched so_far.matched;
      count = count_more (length fronts) (length backs) (length joined) (token_sequence_count (token_of x)) (sequence_count rest) (sequence_count (tokens_of tokens)) new.count c.in_ok-backs.ensures.count so_far.count;
    }

pub expand_tokens-returns-clause-matched : goal.expand_tokens-returns-clause-matched
expand_tokens-returns-clause-matched t c =
    let tokens = c.args.tokens.now in
    row_done c.loop-token.sequences.items (Matches (tokens_of tokens)) (rw (drop_all c.loop-token.token-index tokens c.loop-token-test.false) at c.loop-token.invariant.matched)
