-- What stands between the delimiters of a string, piece by piece.
use Rattle.std.specs.Prelude.{◌≡◌, ◌==◌, ◌&&◌, ◌||◌, ◌++◌, ◌<◌, ◌≤◌, ℕ, Bool, not, List, [], ◌∷◌, Option, None, Some, drop, length, replicate, if◌then◌else◌}
use Rattle.std.specs.List.{prefix_len}
use Rattle.toml_parser.specs.{Lexical.Read, Lexical.first, Strings.escape, Strings.is_plain, Strings.special}
use Rattle.filterset_json.specs.Shape.{Text}
use Rattle.filterset_configuration.specs.declared.content.{Delimiter.Delimiter, PieceEnd.PieceEnd}
use Rattle.filterset_configuration.specs.declared.stretch.Stretch.{Stretch}

-- What the grammar reads at the front of the rest of a string, and what follows: the bytes of the text that a byte or an escape
-- stands for, or `None` for the closing delimiter.
abbrev pub read_piece : Delimiter → Text → Read (Option Text)
read_piece delimiter rest =
    if is_plain delimiter.byte delimiter.is_multi (first rest) then Some (Some (first rest ∷ []), drop 1 rest)
    else special delimiter.byte delimiter.is_multi rest

-- From the offset `at` of the file on, the grammar reads this text, each of its bytes from the piece at its origin, up to the
-- closing delimiter at `end`, which `after` follows.
pub data IsReadFrom (delimiter : Delimiter) (file after : Text) (end : ℕ) : ℕ → Text → List Stretch → Type 0 where
  no_piece : read_piece delimiter (drop end file) ≡ Some (None, after) → IsReadFrom delimiter file after end end [] []
  next_piece : {at to : ℕ} {bytes text : Text} {origins : List Stretch}
      → read_piece delimiter (drop at file) ≡ Some (Some bytes, drop to file) → IsReadFrom delimiter file after end to text origins
      → IsReadFrom delimiter file after end at (bytes ++ text)
      (replicate (length bytes) (record { from = at; to = to }) ++ origins)

-- ---- what the code looks at

-- the string ends here
abbrev pub is_end : Delimiter → Text → Bool
is_end delimiter rest =
    first rest == delimiter.byte
    && (not delimiter.is_multi || prefix_len (λ c. c == delimiter.byte) rest == 3)

-- The piece at this offset of the file ends here and stands for so many bytes, if it is one that `Reads` gives, with what
-- follows it, and if the text goes on with what it stands for.
pub record EndsPiece (Reads : Text → Text → Type 0) (file : Text) (at : ℕ) (ahead : Text) (found : PieceEnd) : Type 0 where
  pub on : at < found.to
  pub within : found.to ≤ length file
  pub is : (bytes next more : Text) → Reads bytes next → ahead ≡ bytes ++ more
      → (length bytes ≡ found.count) × (next ≡ drop found.to file)

-- the grammar reads a piece at the front of the rest of a string
abbrev pub ReadsPiece : Delimiter → Text → Text → Text → Type 0
ReadsPiece delimiter rest bytes next = read_piece delimiter rest ≡ Some (Some bytes, next)

-- it reads an escape after its backslash
abbrev pub ReadsEscape : Bool → Text → Text → Text → Type 0
ReadsEscape multi text bytes next = escape multi text ≡ Some (bytes, next)
