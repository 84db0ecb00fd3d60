-- Values on a stack that are unknown, and the leaves that they wait for.
use Rattle.std.specs.Prelude.{◌≡◌, ◌<◌, ◌≢◌, ◌+◌, ℕ, zero, suc, Bool, List, [], ◌∷◌, Contains, Option, None, get_or, length}
use Rattle.std.specs.declared.{vec.Vec.Vec, alloc.Global.Global}
use Rattle.filterset_expression.specs.{Expression.CompiledLeaf, FlatSteps.Step, FlatSteps.Push, FlatSteps.step_of}
use Rattle.filterset_deciding.specs.declared.running.{StackValue.StackValue, ValuedStep.ValuedStep}

-- the value is known
abbrev pub IsSettled : StackValue → Type 0
IsSettled s = s.value ≢ None

-- some value is unknown, and waits for the leaf at this position
abbrev pub WaitsAt : ℕ → List StackValue → Type 0
WaitsAt at values = (s : StackValue) × Contains values s × (s.value ≡ None) × (s.waits_for ≡ at)

-- the step is a leaf without a value
pub record IsOpenStep (placed : ValuedStep) : Type 0 where
  pub leaf : CompiledLeaf
  pub step : step_of placed.step ≡ Push leaf
  pub value : placed.value ≡ None

-- the step at this position is a leaf without a value
abbrev pub IsOpenAt : List ValuedStep → ℕ → Type 0
IsOpenAt branch at = (at < length branch) × ((placed : ValuedStep) → get_or branch at placed ≡ placed → IsOpenStep placed)

-- an unknown value waits for a leaf of the branch without a value
abbrev pub WaitsIn : List ValuedStep → StackValue → Type 0
WaitsIn branch s = s.value ≡ None → IsOpenAt branch s.waits_for

-- how many leaves of the branch have no value
abbrev pub open_of : Step CompiledLeaf → Option Bool → ℕ
open_of (Push leaf) None = 1
open_of _ _ = 0

abbrev pub opens : List ValuedStep → ℕ
opens [] = 0
opens (placed ∷ branch) = open_of (step_of placed.step) placed.value + opens branch

-- how many branches there are at most of one with so many leaves without a value, if each is divided by one of them
abbrev pub nodes : ℕ → ℕ
nodes zero = 1
nodes (suc n) = 1 + (nodes n + nodes n)

abbrev pub all_nodes : List (Vec ValuedStep Global) → ℕ
all_nodes [] = 0
all_nodes (branch ∷ branches) = nodes (opens branch.items) + all_nodes branches
