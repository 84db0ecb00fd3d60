-- Lists that are made part by part.
use Rattle.std.specs.Prelude.{List, [], ◌∷◌, ◌++◌}

-- a list that is made of a part for each element of another, in their order
pub data Joins {A B : Type 0} (IsPart : A → List B → Type 0) : List A → List B → Type 0 where
  no_parts : Joins IsPart [] []
  next_part : {x : A} {xs : List A} {front rest : List B}
      → IsPart x front → Joins IsPart xs rest → Joins IsPart (x ∷ xs) (front ++ rest)
