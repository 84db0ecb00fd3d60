-- Lists that lead from positions to positions.
use Rattle.std.specs.Prelude.{◌≡◌, ◌<◌, ◌↔◌, ◌⊎◌, ℕ, zero, suc, Bool, true, List, Option, Some, length, option_and_then, slice_get}

-- where a position leads, if anywhere
abbrev pub lead : List (Option ℕ) → ℕ → Option ℕ
lead leads at = option_and_then (λ to. to) (slice_get leads at)

-- where so many steps lead
abbrev pub lead_after : List (Option ℕ) → ℕ → ℕ → Option ℕ
lead_after leads zero at = Some at
lead_after leads (suc n) at = option_and_then (lead_after leads n) (lead leads at)

-- one step or more lead from a position back to it
abbrev pub LeadsBack : List (Option ℕ) → ℕ → Type 0
LeadsBack leads at = (n : ℕ) × (lead_after leads (suc n) at ≡ Some at)

-- each position leads as far as so many steps of a list
abbrev pub AreLeadsAfter : List (Option ℕ) → ℕ → List (Option ℕ) → Type 0
AreLeadsAfter parents n leads = (length leads ≡ length parents) × ((at : ℕ) → lead leads at ≡ lead_after parents n at)

-- each position leads as far as more steps than there are positions
abbrev pub AreFar : List (Option ℕ) → List (Option ℕ) → Type 0
AreFar parents leads = (n : ℕ) × (length parents < n) × AreLeadsAfter parents n leads

-- a position is marked, if there is one in the list, and no other changes
abbrev pub IsMarked : List Bool → Option ℕ → List Bool → Type 0
IsMarked old position new =
    (length new ≡ length old)
    × ((at : ℕ) → (slice_get new at ≡ Some true) ↔ ((slice_get old at ≡ Some true) ⊎ ((at < length old) × (position ≡ Some at))))

-- exactly the positions are marked that others lead to
abbrev pub MarksEnds : List (Option ℕ) → List Bool → Type 0
MarksEnds leads marks =
    (at : ℕ) → (slice_get marks at ≡ Some true) ↔ ((at < length leads) × ((from : ℕ) × (lead leads from ≡ Some at)))
