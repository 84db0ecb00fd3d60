use Rattle.std.proofs.Common.{◌≤◌, drop, length, map}
use Rattle.filterset_language.specs.Views.{leaf_of}
use Rattle.filterset_rewriting.specs.Tokens.{AdvancesTo}
use Rattle.filterset_rewriting.proofs.tokens.leaves.tokens_among.Given as goal

-- the tokens so far are those of the text up to here
abbrev pub invariant-loop-leaf : goal.invariant-loop-leaf
invariant-loop-leaf l = record {
  within : l.at ≤ length l.text;
  advances : AdvancesTo l.text (map (λ leaf. leaf_of leaf.now) l.leaves) l.at
      (drop l.leaf-index (map (λ leaf. leaf_of leaf.now) l.leaves)) l.tokens.items;
}
