use Rattle.std.proofs.Common.{◌<◌, ◌≤◌, ℕ}
use Rattle.filterset_matchers.specs.Substring.{StandsAt}
use Rattle.filterset_matchers.proofs.matcher.substring.occurs_between.Given as goal

-- the needle stands at no position so far
abbrev pub invariant-loop-position : goal.invariant-loop-position
invariant-loop-position l = record {
  before : (k : ℕ) → l.from ≤ k → k < l.position → StandsAt l.text l.needle k → ⊥;
}
