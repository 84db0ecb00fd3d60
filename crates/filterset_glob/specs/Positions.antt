-- Sets of positions in a text, with one truth value for each position.
use Rattle.std.specs.Prelude.{◌≡◌, ℕ, Bool, true, false, List, ◌++◌, length}
use Rattle.std.specs.List.{slice_index_or}

-- the position is in the set
abbrev pub Holds : List Bool → ℕ → Type 0
Holds positions i = slice_index_or positions i false ≡ true

-- The set after holds exactly the ends of the pieces that are as R says and begin at a position of the set before.
pub record Moves (R : List ℕ → Type 0) (text : List ℕ) (before after : List Bool) : Type 0 where
  pub reached : (front back : List ℕ) → text ≡ front ++ back → Holds after (length front)
      → (start : List ℕ) × (piece : List ℕ) × (front ≡ start ++ piece) × Holds before (length start) × R piece
  pub reaches : (start piece back : List ℕ) → text ≡ (start ++ piece) ++ back → Holds before (length start)
      → R piece → Holds after (length (start ++ piece))
