use Rattle.std.proofs.Common.{◌≤◌, ◌<◌, ℕ}
use Rattle.filterset_deciding.specs.Texts.{AreSimple}
use Rattle.filterset_deciding.proofs.texts.find_separator.Given as goal

-- the demands are not simple for the characters so far
abbrev pub invariant-loop-c : goal.invariant-loop-c
invariant-loop-c l = (k : ℕ) → 33 ≤ k → k < l.c → ¬ AreSimple k l.demands
