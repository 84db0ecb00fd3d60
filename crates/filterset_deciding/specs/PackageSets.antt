-- Sets of packages in a branch.
use Rattle.std.specs.Prelude.{◌≡◌, ◌≤◌, ℕ, true, List, Contains, Some, None, length}
use Rattle.filterset_expression.specs.{Expression.Packages, FlatSteps.Push, FlatSteps.step_of}
use Rattle.filterset_deciding.specs.declared.running.ValuedStep.{ValuedStep}

-- the step is no leaf with a set of packages and a value
abbrev pub IsOfNoPackage : ValuedStep → Type 0
IsOfNoPackage placed = (ids : List (List ℕ)) → step_of placed.step ≡ Push (Packages ids) → placed.value ≡ None

-- no set of packages is known to contain the package
abbrev pub IsInNone : ValuedStep → Type 0
IsInNone placed = (ids : List (List ℕ)) → step_of placed.step ≡ Push (Packages ids) → ¬ (placed.value ≡ Some true)

-- no id in a set of packages is longer than this
abbrev pub IsWithin : ℕ → ValuedStep → Type 0
IsWithin limit placed = (ids : List (List ℕ)) → step_of placed.step ≡ Push (Packages ids) → (id : List ℕ) → Contains ids id → length id ≤ limit
