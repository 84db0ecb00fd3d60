-- A text, the rest of it, and the position after its blanks.
use Rattle.std.specs.Prelude.{◌≡◌, ℕ, ◌+◌, ◌≤◌, List, [], ◌∷◌, length, drop, Bool, true, ◌&&◌, if◌then◌else◌, IsCharBoundary}
use Rattle.std.specs.Str.{is_utf8}
use Rattle.filterset_glob.specs.Signs.{◌∈◌}

-- a byte offset, and the text from there on
pub record Position : Type 0 where
  pub at : ℕ
  pub rest : List ℕ

-- the position of this offset and this rest
abbrev pub position : ℕ → List ℕ → Position
position at rest = record { at = at; rest = rest }

-- how a reader finds the blanks of the grammar: the byte is one
abbrev pub is_blank : ℕ → Bool
is_blank b = b ∈ " \n"

-- or the two bytes together are one
abbrev pub is_line_end : ℕ → ℕ → Bool
is_line_end b c = (b ∈ "\r") && (c ∈ "\n")

-- the position after all blanks
abbrev pub skip_from : ℕ → List ℕ → Position
skip_from at [] = position at []
skip_from at (b ∷ []) = if is_blank b then position (at + 1) [] else position at (b ∷ [])
skip_from at (b ∷ c ∷ t) =
    if is_blank b then skip_from (at + 1) (c ∷ t)
    else (if is_line_end b c then skip_from (at + 2) t else position at (b ∷ c ∷ t))

-- the rest of a text, from an offset on that stands between two characters
pub record IsSeam (text rest : List ℕ) (offset : ℕ) : Type 0 where
  pub within : offset ≤ length text
  pub onward : drop offset text ≡ rest
  pub utf8 : is_utf8 rest ≡ true

-- so many bytes further on, after the same blanks stands the same position
pub record AreBlanks (offset : ℕ) (rest : List ℕ) (count : ℕ) : Type 0 where
  pub boundary : IsCharBoundary rest count
  pub same : skip_from (offset + count) (drop count rest) ≡ skip_from offset rest
