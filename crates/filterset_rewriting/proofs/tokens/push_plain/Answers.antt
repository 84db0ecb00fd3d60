use Rattle.std.proofs.Common.{arith, ◌+◌, subst}
use Rattle.filterset_rewriting.specs.Tokens.{Advances}
use Rattle.filterset_graph.specs.Packages.{Text}
use Rattle.filterset_rewriting.proofs.TokenLemmas.{at_end, at_start, one_more}
use Rattle.filterset_rewriting.proofs.tokens.push_plain.Goals as goal

pub loop-at-init : goal.loop-at-init
loop-at-init c = record {
  within = omega arith;
  advances = at_start c.args.offset c.args.text.now c.args.tokens.now.items;
}

pub loop-at-preserved : goal.loop-at-preserved
loop-at-preserved c =
    let at = c.loop-at.at in
    let len = c.in_ok-len.len in
    let taken = c.in_ok-len.ensures.taken in
    let old = c.loop-at.tokens.items in
    let new = c.push_front.new.tokens.items in
    let Is : Text → Type 0 = λ t. Advances (c.args.offset + at) t len old new in
    let step = subst Is c.split_at.ensures.back c.in_ok-len.ensures.tokens in record {
      within = omega (arith, taken.1, c.split_at.ensures.back_len);
      advances = one_more c.args.offset at len c.args.text.now c.args.tokens.now.items old new c.loop-at.invariant.advances step;
    }

pub returns : goal.returns
returns c =
    at_end c.args.offset c.loop-at.at c.args.text.now c.args.tokens.now.items c.loop-at.tokens.items c.loop-at-test.false
    c.loop-at.invariant.advances
