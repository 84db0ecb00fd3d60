-- Occurrences of a text in another.
use Rattle.std.specs.Prelude.{◌≡◌, ℕ, List, length, take, drop}

-- the text has these bytes from this position on
abbrev pub StandsAt : List ℕ → List ℕ → ℕ → Type 0
StandsAt text needle position = take (length needle) (drop position text) ≡ needle
