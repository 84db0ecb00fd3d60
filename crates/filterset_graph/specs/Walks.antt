-- Lists in which each element is related to the one before it, and positions that are marked.
use Rattle.std.specs.Prelude.{◌≡◌, List, [], ◌∷◌, ℕ, Bool, true, Some, slice_get}

-- from a, each of the list is related to the one before it, and the last is b
abbrev pub Follows : {A : Type 0} → (A → A → Type 0) → A → List A → A → Type 0
Follows R a [] b = a ≡ b
Follows R a (next ∷ rest) b = R a next × Follows R next rest b

-- the truth value at the position k is true
abbrev pub IsMarked : List Bool → ℕ → Type 0
IsMarked marks k = slice_get marks k ≡ Some true
