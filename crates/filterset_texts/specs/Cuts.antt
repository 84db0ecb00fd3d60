-- Facts about texts: whether they hold of the same texts, and of the pieces of a text.
use Rattle.std.specs.Prelude.{◌≡◌, ◌↔◌, ◌++◌, ℕ, List}

-- both hold of the same texts
abbrev pub HoldTogether : (List ℕ → Type 0) → (List ℕ → Type 0) → Type 0
HoldTogether First Second = (text : List ℕ) → First text ↔ Second text

-- the text can be cut in two, so that the one fact holds of the front and the other of what follows it
abbrev pub HoldInTurn : (List ℕ → Type 0) → (List ℕ → Type 0) → List ℕ → Type 0
HoldInTurn First Second text = (front : List ℕ) × (back : List ℕ) × (text ≡ front ++ back) × First front × Second back
