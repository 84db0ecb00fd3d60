use Rattle.std.proofs.Common.{ℕ, ◌≤◌, ◌<◌}
use Rattle.std.specs.List.{slice_index_or}
use Rattle.filterset_texts.proofs.letters.is_in_ranges.Given as goal

-- no range so far holds the character
abbrev pub invariant-loop-low : goal.invariant-loop-low
invariant-loop-low l =
    (k : ℕ) → k < l.low-index → (slice_index_or l.ranges k (0, 0)).0 ≤ l.character → l.character ≤ (slice_index_or l.ranges k (0, 0)).1 → ⊥
