-- Texts that are made piece by piece.
use Rattle.std.specs.Prelude.{ℕ, List, [], ◌∷◌, ◌++◌}

-- a text that is made of a piece for each element of a list, in their order
pub data Pieces {A : Type 0} (IsPiece : A → List ℕ → Type 0) : List A → List ℕ → Type 0 where
  no_pieces : Pieces IsPiece [] []
  next_piece : {x : A} {xs : List A} {front rest : List ℕ}
      → IsPiece x front → Pieces IsPiece xs rest → Pieces IsPiece (x ∷ xs) (front ++ rest)
