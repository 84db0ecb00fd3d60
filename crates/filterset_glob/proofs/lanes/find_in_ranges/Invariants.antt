use Rattle.std.proofs.Common.{◌≡◌, ℕ, ◌≤◌, ◌<◌, slice_index}
use Rattle.std.specs.{List.slice_index_or, Int.bit_at}
use Rattle.filterset_glob.specs.Matching.{InRanges}
use Rattle.filterset_glob.proofs.lanes.find_in_ranges.Given as goal

-- the bytes in the ranges so far
abbrev pub invariant-loop-low : goal.invariant-loop-low
invariant-loop-low g l = record {
  within : (k : ℕ) → k < 64 → bit_at l.inside k ≡ 1 → InRanges l.ranges (slice_index (g.B.Block.lanes l.block) k);
  each : (k i : ℕ) → k < 64 → i < l.low-index → (slice_index_or l.ranges i (0, 0)).0 ≤ slice_index (g.B.Block.lanes l.block) k → slice_index (g.B.Block.lanes l.block) k ≤ (slice_index_or l.ranges i (0, 0)).1 → bit_at l.inside k ≡ 1;
}
