-- Lists of what is taken from other lists.
use Rattle.std.specs.Prelude.{◌≡◌, Bool, true, false, List, [], ◌∷◌, map}

-- the second list has those elements of the first for which `In` holds, in their order; for the others `Out` does
pub data Sieves {A : Type 0} (In Out : A → Type 0) : List A → List A → Type 0 where
  no_more : Sieves In Out [] []
  taken : {x : A} {xs ys : List A} → In x → Sieves In Out xs ys → Sieves In Out (x ∷ xs) (x ∷ ys)
  left : {x : A} {xs ys : List A} → Out x → Sieves In Out xs ys → Sieves In Out (x ∷ xs) ys

-- the second list has exactly those elements of the first for which `In` holds, in their order
abbrev pub Selects : {A : Type 0} → (A → Type 0) → List A → List A → Type 0
Selects In xs found = Sieves In (λ x. ¬ In x) xs found

-- the list has what exactly those elements are called, in their order
abbrev pub SelectsAs : {A B : Type 0} → (A → Type 0) → (A → B) → List A → List B → Type 0
SelectsAs {A} In name xs names = (found : List A) × Selects In xs found × (names ≡ map name found)

-- the element, if it is taken
abbrev pub taken_if : {A : Type 0} → Bool → A → List A
taken_if true x = x ∷ []
taken_if false x = []
