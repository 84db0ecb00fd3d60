use Rattle.std.proofs.Common.{◌≡◌, ◌≤◌, length, ℕ}
use Rattle.filterset_language.specs.Parsing.Position.{skip_from}
use Rattle.filterset_rewriting.proofs.nesting.arguments.skip_blanks.Given as goal

-- only blanks are skipped so far
abbrev pub invariant-loop-rest : goal.invariant-loop-rest
invariant-loop-rest l = record {
  within : length l.rest ≤ length l.text;
  same : (at : ℕ) × (skip_from at l.rest ≡ skip_from 0 l.text);
}

abbrev pub decreases-loop-rest : goal.decreases-loop-rest
decreases-loop-rest l = length l.rest
