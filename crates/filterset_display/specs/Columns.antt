-- How a character is drawn, and how many columns of a terminal it takes.
use Rattle.std.specs.Prelude.{ℕ, ◌==◌, ◌&&◌, nat_le, nat_lt, false, List, [], Option, Some, None, length, sum_by, filter, take, chars, codes, encode_utf8, encode_utf8_all, unwrap_or, if◌then◌else◌}
use Rattle.std.specs.List.{enumerate_from, flat_map}
use Rattle.unicode_width.specs.Width.{char_width}

-- a text, by its bytes
abbrev pub Text : Type 0
Text = List ℕ

-- The columns that a character takes: two for a tab, none for a carriage return, and else those that a terminal gives it.
-- A control character has no width of its own, and takes one.
abbrev pub columns_of : ℕ → ℕ
columns_of c = if c == 9 then 2 else if c == 13 then 0 else unwrap_or (char_width false c) 1

-- what stands for a character that has this width, or none
abbrev pub shown : Option ℕ → ℕ → Text
shown None c = encode_utf8 0xFFFD
shown (Some width) c = encode_utf8 c

-- What a character is drawn as: two blanks for a tab, nothing for a carriage return, the replacement character for any
-- other control character, and else itself.
abbrev pub drawn_char : ℕ → Text
drawn_char c = if c == 9 then codes "  " else if c == 13 then [] else shown (char_width false c) c

-- what a text is drawn as
abbrev pub drawn : Text → Text
drawn text = flat_map drawn_char (chars text)

-- the bytes before the character of a text that has this index
abbrev pub begin_of : Text → ℕ → ℕ
begin_of text index = length (encode_utf8_all (take index (chars text)))

-- the columns of the characters of a text that begin at the byte `from` or after it, and before the byte `to`
abbrev pub columns_between : Text → ℕ → ℕ → ℕ
columns_between text from to =
    sum_by (λ (index, c). columns_of c)
    (filter (λ (index, c). nat_le from (begin_of text index) && nat_lt (begin_of text index) to)
    (enumerate_from 0 (chars text)))
