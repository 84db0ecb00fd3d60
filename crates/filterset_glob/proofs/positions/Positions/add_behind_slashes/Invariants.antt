use Rattle.std.proofs.Common.{◌≡◌, ℕ, ◌+◌, ◌≤◌, ◌<◌, ◌⊎◌, true, length, slice_index}
use Rattle.filterset_glob.specs.{Positions.Holds, Matching.slash}
use Rattle.filterset_glob.proofs.positions.Positions.add_behind_slashes.Given as goal

abbrev pub invariant-loop-position : goal.invariant-loop-position
invariant-loop-position l = record {
  long : length l.self ≡ length l.initial.self;
  kept : (k : ℕ) → Holds l.initial.self k → Holds l.self k;
  added : (i j : ℕ) → i ≤ j → j < l.position → Holds l.initial.self i → slice_index l.text j ≡ slash → Holds l.self (j + 1);
  only : (j : ℕ) → Holds l.self (j + 1) → Holds l.initial.self (j + 1) ⊎ ((slice_index l.text j ≡ slash) × (i : ℕ) × (i ≤ j) × Holds l.initial.self i);
  first : Holds l.self 0 → Holds l.initial.self 0;
  came : l.reached ≡ true → (i : ℕ) × (i < l.position) × Holds l.initial.self i;
  comes : (i : ℕ) → i < l.position → Holds l.initial.self i → l.reached ≡ true;
}
