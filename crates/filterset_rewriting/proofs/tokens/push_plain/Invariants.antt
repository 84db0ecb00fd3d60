use Rattle.std.proofs.Common.{◌-◌, ◌≤◌, length}
use Rattle.filterset_rewriting.specs.Tokens.{Advances}
use Rattle.filterset_rewriting.proofs.tokens.push_plain.Given as goal

-- the tokens so far are those of the text up to here
abbrev pub invariant-loop-at : goal.invariant-loop-at
invariant-loop-at l = record {
  within : l.at ≤ length l.text;
  advances : Advances l.offset l.text l.at l.fn.tokens.items l.tokens.items;
}

abbrev pub decreases-loop-at : goal.decreases-loop-at
decreases-loop-at l = length l.text - l.at
