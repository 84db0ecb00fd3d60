-- Where a string of a file is read as a text.
use Rattle.std.specs.Prelude.{◌≡◌, ◌==◌, ◌&&◌, ◌+◌, ℕ, Bool, Some, drop, length, slice_index, if◌then◌else◌}
use Rattle.toml_parser.specs.{Lexical.first, Strings.quoted}
use Rattle.filterset_json.specs.Shape.{Text}
use Rattle.filterset_configuration.specs.Pieces.{IsReadFrom}
use Rattle.filterset_configuration.specs.declared.{content.Delimiter.Delimiter, place.Place.Place}

-- At the place's literal in the file, the grammar reads a string as this text. Behind its opening delimiter, from `start` on,
-- each byte of the text is read from the piece that is its origin, up to the closing delimiter at the place's end.
abbrev pub IsPlaceOf : Text → Text → Place → Type 0
IsPlaceOf file text place =
    (delimiter : Delimiter) × (start : ℕ) × (after : Text) × (quoted (drop place.literal.from file) ≡ Some (text, after))
    × (length after + place.literal.to ≡ length file)
    × IsReadFrom delimiter file after place.end start text place.origins.items

-- ---- what the code looks at

-- a string has three delimiters at its front
abbrev pub is_multi_line : Text → Bool
is_multi_line string = slice_index string 1 == first string && slice_index string 2 == first string

abbrev pub delimiter_of : Text → Delimiter
delimiter_of string = record { byte = first string; is_multi = is_multi_line string }

-- how many bytes stand before the text: one delimiter, or three and a line break after them
abbrev pub opening_length : Text → ℕ
opening_length string =
    if is_multi_line string
    then if slice_index string 3 == 10 then 4
    else if slice_index string 3 == 13 && slice_index string 4 == 10 then 5 else 3
    else 1
